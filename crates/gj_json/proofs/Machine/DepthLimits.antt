-- A limit on the depth that is one higher, and what a limit says of the levels.
use Rattle.gj_json.proofs.Common.{AllByRecursion, FitsBroken, FitsLeaf, FitsName, List, Tree, arith, depth, length, ℕ, [], ◌+◌, ◌∷◌, ◌≤◌}
use Rattle.gj_json.specs.Internal.TextMachine.{Broken, begun, Frame, Leaf, in_array, in_object, Member, value_due, value_done, array_opened, object_opened}
use Rattle.gj_json.specs.Internal.TextMachine.{constant_on, number_on, string_on, name_due, name_on, colon_due}
use Rattle.gj_json.specs.Internal.ReaderState.{Fits}
use Rattle.gj_json.proofs.Machine.CompletableStates.{levels_fit}
use Rattle.gj_json.proofs.Events.OpenContainers.{own_levels}

all_deeper : (d k : ℕ) (done : List Tree) → AllByRecursion (λ t. depth t + k ≤ d) done → AllByRecursion (λ t. depth t + k ≤ d + 1) done
all_deeper d k [] h = tt
all_deeper d k (t ∷ done) h = (omega (arith, h.0), all_deeper d k done h.1)

members_deeper : (d k : ℕ) (done : List Member) → AllByRecursion (λ m. depth m.value + k ≤ d) done → AllByRecursion (λ m. depth m.value + k ≤ d + 1) done
members_deeper d k [] h = tt
members_deeper d k (m ∷ done) h = (omega (arith, h.0), members_deeper d k done h.1)

deeper : (d : ℕ) (stack : List Frame) → Fits d stack → Fits (d + 1) stack
deeper d [] h = tt
deeper d (in_array place done ∷ stack) h = (omega (arith, h.0), all_deeper d (length stack + 1) done h.1, deeper d stack h.2)
deeper d (in_object place done np name ne ∷ stack) h = (omega (arith, h.0), members_deeper d (length stack + 1) done h.1, deeper d stack h.2)

name_deeper : (d : ℕ) (stack : List Frame) (done : List Member) → FitsName d stack done → FitsName (d + 1) stack done
name_deeper d stack done h = (omega (arith, h.0), members_deeper d (length stack + 1) done h.1, deeper d stack h.2)

leaf_deeper : (d : ℕ) (stack : List Frame) (leaf : Leaf) → FitsLeaf d stack leaf → FitsLeaf (d + 1) stack leaf
leaf_deeper d stack value_due h = deeper d stack h
leaf_deeper d stack (value_done t) h = (omega (arith, h.0), deeper d stack h.1)
leaf_deeper d stack (array_opened place) h = (omega (arith, h.0), deeper d stack h.1)
leaf_deeper d stack (object_opened place) h = (omega (arith, h.0), deeper d stack h.1)
leaf_deeper d stack (constant_on which place left) h = deeper d stack h
leaf_deeper d stack (number_on place so_far) h = deeper d stack h
leaf_deeper d stack (string_on place so_far state) h = deeper d stack h
leaf_deeper d stack (name_due place done) h = name_deeper d stack done h
leaf_deeper d stack (name_on place done np so_far state) h = name_deeper d stack done h
leaf_deeper d stack (colon_due place done np name ne) h = name_deeper d stack done h

-- what fits has no more levels than the limit
pub leaf_levels : (d : ℕ) (stack : List Frame) (leaf : Leaf) → FitsLeaf d stack leaf → length stack + own_levels leaf ≤ d
leaf_levels d stack value_due h = omega (arith, levels_fit d stack h)
leaf_levels d stack (value_done t) h = omega (arith, levels_fit d stack h.1)
leaf_levels d stack (array_opened place) h = omega (arith, h.0)
leaf_levels d stack (object_opened place) h = omega (arith, h.0)
leaf_levels d stack (constant_on which place left) h = omega (arith, levels_fit d stack h)
leaf_levels d stack (number_on place so_far) h = omega (arith, levels_fit d stack h)
leaf_levels d stack (string_on place so_far state) h = omega (arith, levels_fit d stack h)
leaf_levels d stack other h = omega (arith, h.0)

pub broken_deeper : (d : ℕ) (s : Broken) → FitsBroken d s → FitsBroken (d + 1) s
broken_deeper d (begun marked s) h = leaf_deeper d s.stack s.leaf h
broken_deeper d _ h = tt
