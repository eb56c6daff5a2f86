-- How the definitions cut some inputs into records, by computing.
use Rattle.gj_rules.proofs.Common.{Input, Limit, Lines, Separator, entries_of, entry_at, part_at, parts_from, refl, [], ◌∷◌}
use Rattle.std.proofs.Common.{◌≡◌}
use Rattle.gj_rules.specs.declared.records.framing.Framing.TheVariants.{Sequence}

-- 'a', LF, LF, ' ', LF, 'b': the last line has no LF
lines_parts : parts_from Lines Input 0 (97 ∷ 10 ∷ 10 ∷ 32 ∷ 10 ∷ 98 ∷ [])
    ≡ part_at 0 (97 ∷ []) Separator ∷ part_at 2 [] Separator ∷ part_at 3 (32 ∷ []) Separator ∷ part_at 5 (98 ∷ []) Input ∷ []
lines_parts = refl

-- the blank lines are no records
lines_counted : entries_of Lines (record { depth = 1; bytes = 9 }) (97 ∷ 10 ∷ 10 ∷ 32 ∷ 10 ∷ 98 ∷ []) ≡ entry_at 1 (part_at 0 (97 ∷ []) Separator) ∷ entry_at 2
    (part_at 5 (98 ∷ []) Input) ∷ []
lines_counted = refl

-- LF at the end begins no line
last_line_feed : entries_of Lines (record { depth = 1; bytes = 9 }) (97 ∷ 13 ∷ 10 ∷ []) ≡ entry_at 1 (part_at 0 (97 ∷ 13 ∷ []) Separator) ∷ []
last_line_feed = refl

-- 'x', RS, RS, 'a', LF, RS: what stands before the first RS has the number 0, and the last RS begins a record
sequence_counted : entries_of Sequence (record { depth = 1; bytes = 9 }) (120 ∷ 30 ∷ 30 ∷ 97 ∷ 10 ∷ 30 ∷ [])
    ≡ entry_at 0 (part_at 0 (120 ∷ []) Separator) ∷ entry_at 1 (part_at 3 (97 ∷ 10 ∷ []) Separator) ∷ entry_at 2 (part_at 6 [] Input) ∷ []
sequence_counted = refl

-- RS, 'a', 'b', 'c', where three bytes are allowed
cut_off : entries_of Sequence (record { depth = 1; bytes = 3 }) (30 ∷ 97 ∷ 98 ∷ 99 ∷ []) ≡ entry_at 1 (part_at 1 (97 ∷ 98 ∷ []) Limit) ∷ []
cut_off = refl

-- and a line of which only white space is within them may have gone on
line_cut_off : entries_of Lines (record { depth = 1; bytes = 3 }) (97 ∷ 10 ∷ 32 ∷ 99 ∷ []) ≡ entry_at 1 (part_at 0 (97 ∷ []) Separator) ∷ entry_at 2
    (part_at 2 (32 ∷ []) Limit) ∷ []
line_cut_off = refl

nothing : entries_of Sequence (record { depth = 1; bytes = 9 }) [] ≡ []
nothing = refl
