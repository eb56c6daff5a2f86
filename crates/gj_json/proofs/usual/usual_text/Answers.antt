-- Each type, by its bytes.
use Rattle.gj_json.proofs.Common.{codes, refl}
use Rattle.gj_json.specs.Names.{word_of}
use Rattle.gj_json.specs.Internal.WholeTokens.{IsUsualText}
use Rattle.gj_json.specs.declared.names.Word.TheVariants.{Feature, Point, Polygon, LineString}
use Rattle.gj_json.proofs.Grammar.UsualTokens.{by_first, plain}
use Rattle.gj_json.proofs.usual.usual_text.Goals as goal

pub returns-in-70-clause-usual : goal.returns-in-70-clause-usual
unfolding word_of
returns-in-70-clause-usual c =
    λ some. by_first (λ piece. IsUsualText piece 9 Feature) 9 c.args.piece.now _ (codes "\"Feature\"") c.if-begins.ensures refl (record {
      quoted = record { spelled = refl; reads = plain (codes "Feature") };
      known_as = refl;
    })

pub returns-in-80-clause-usual : goal.returns-in-80-clause-usual
unfolding word_of
returns-in-80-clause-usual c =
    λ some. by_first (λ piece. IsUsualText piece 7 Point) 7 c.args.piece.now _ (codes "\"Point\"") c.if-begins-2.ensures refl (record {
      quoted = record { spelled = refl; reads = plain (codes "Point") };
      known_as = refl;
    })

pub returns-in-80-2-clause-usual : goal.returns-in-80-2-clause-usual
unfolding word_of
returns-in-80-2-clause-usual c =
    λ some. by_first (λ piece. IsUsualText piece 9 Polygon) 9 c.args.piece.now _ (codes "\"Polygon\"") c.if-begins-3.ensures refl (record {
      quoted = record { spelled = refl; reads = plain (codes "Polygon") };
      known_as = refl;
    })

pub returns-in-76-clause-usual : goal.returns-in-76-clause-usual
unfolding word_of
returns-in-76-clause-usual c =
    λ some. by_first (λ piece. IsUsualText piece 12 LineString) 12 c.args.piece.now _ (codes "\"LineString\"") c.if-begins-4.ensures refl (record {
      quoted = record { spelled = refl; reads = plain (codes "LineString") };
      known_as = refl;
    })
