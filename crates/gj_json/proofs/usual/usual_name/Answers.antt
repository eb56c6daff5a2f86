-- Each name, by its bytes.
use Rattle.gj_json.proofs.Common.{Coordinates, Geometry, TypeName, codes, refl}
use Rattle.gj_json.specs.Names.{known_of}
use Rattle.gj_json.specs.Internal.WholeTokens.{IsUsualName}
use Rattle.gj_json.specs.declared.names.Known.TheVariants.{Properties, Id}
use Rattle.gj_json.proofs.Grammar.UsualTokens.{by_first, plain}
use Rattle.gj_json.proofs.usual.usual_name.Goals as goal

pub returns-in-116-clause-usual : goal.returns-in-116-clause-usual
unfolding known_of
returns-in-116-clause-usual c =
    λ some. by_first (λ piece. IsUsualName piece 6 TypeName) 7 c.args.piece.now _ (codes "\"type\":") c.if-begins.ensures refl (record {
      quoted = record { spelled = refl; reads = plain (codes "type") };
      known_as = refl;
      colon = refl;
    })

pub returns-in-103-clause-usual : goal.returns-in-103-clause-usual
unfolding known_of
returns-in-103-clause-usual c =
    λ some. by_first (λ piece. IsUsualName piece 10 Geometry) 11 c.args.piece.now _ (codes "\"geometry\":") c.if-begins-2.ensures refl (record {
      quoted = record { spelled = refl; reads = plain (codes "geometry") };
      known_as = refl;
      colon = refl;
    })

pub returns-in-99-clause-usual : goal.returns-in-99-clause-usual
unfolding known_of
returns-in-99-clause-usual c =
    λ some. by_first (λ piece. IsUsualName piece 13 Coordinates) 14 c.args.piece.now _ (codes "\"coordinates\":") c.if-begins-3.ensures refl (record {
      quoted = record { spelled = refl; reads = plain (codes "coordinates") };
      known_as = refl;
      colon = refl;
    })

pub returns-in-112-clause-usual : goal.returns-in-112-clause-usual
unfolding known_of
returns-in-112-clause-usual c =
    λ some. by_first (λ piece. IsUsualName piece 12 Properties) 13 c.args.piece.now _ (codes "\"properties\":") c.if-begins-4.ensures refl (record {
      quoted = record { spelled = refl; reads = plain (codes "properties") };
      known_as = refl;
      colon = refl;
    })

pub returns-in-105-clause-usual : goal.returns-in-105-clause-usual
unfolding known_of
returns-in-105-clause-usual c =
    λ some. by_first (λ piece. IsUsualName piece 4 Id) 5 c.args.piece.now _ (codes "\"id\":") c.if-begins-5.ensures refl (record {
      quoted = record { spelled = refl; reads = plain (codes "id") };
      known_as = refl;
      colon = refl;
    })
