-- A state fits within a depth exactly where it nests no deeper.
use Rattle.gj_json.proofs.Common.{AllByRecursion, FitsBroken, FitsLeaf, FitsName, List, Tree, arith, broken_depth, depth, length, ℕ, [], ◌+◌, ◌∷◌}
use Rattle.gj_json.proofs.Common.{◌≤◌}
use Rattle.gj_json.specs.Internal.TextMachine.{Broken, text_due, mark_one, mark_two, begun, Frame, Leaf, in_array, in_object, Member, value_due, value_done}
use Rattle.gj_json.specs.Internal.TextMachine.{array_opened, object_opened, constant_on, number_on, string_on, name_due, name_on, colon_due}
use Rattle.gj_json.specs.Broken.{trees_depth, values_depth, stack_depth, leaf_depth}
use Rattle.gj_json.specs.Internal.ReaderState.{Fits}
use Rattle.gj_json.proofs.Machine.CompletableStates.{levels_fit}

trees_fit : (d k : ℕ) (done : List Tree) → k ≤ d → AllByRecursion (λ t. depth t + k ≤ d) done → k + trees_depth done ≤ d
trees_fit d k [] l h = omega arith
trees_fit d k (t ∷ done) l h = omega (arith, h.0, trees_fit d k done l h.1)

fit_trees : (d k : ℕ) (done : List Tree) → k + trees_depth done ≤ d → AllByRecursion (λ t. depth t + k ≤ d) done
fit_trees d k [] l = tt
fit_trees d k (t ∷ done) l = (omega arith, fit_trees d k done (omega arith))

values_fit : (d k : ℕ) (done : List Member) → k ≤ d → AllByRecursion (λ m. depth m.value + k ≤ d) done → k + values_depth done ≤ d
values_fit d k [] l h = omega arith
values_fit d k (m ∷ done) l h = omega (arith, h.0, values_fit d k done l h.1)

fit_values : (d k : ℕ) (done : List Member) → k + values_depth done ≤ d → AllByRecursion (λ m. depth m.value + k ≤ d) done
fit_values d k [] l = tt
fit_values d k (m ∷ done) l = (omega arith, fit_values d k done (omega arith))

stack_fits : (d : ℕ) (stack : List Frame) → Fits d stack → stack_depth stack ≤ d
stack_fits d [] h = omega arith
stack_fits d (in_array place done ∷ stack) h = omega (arith, trees_fit d (length stack + 1) done h.0 h.1, stack_fits d stack h.2)
stack_fits d (in_object place done np name ne ∷ stack) h = omega (arith, values_fit d (length stack + 1) done h.0 h.1, stack_fits d stack h.2)

fit_stack : (d : ℕ) (stack : List Frame) → stack_depth stack ≤ d → Fits d stack
fit_stack d [] l = tt
fit_stack d (in_array place done ∷ stack) l = (omega arith, fit_trees d (length stack + 1) done (omega arith), fit_stack d stack (omega arith))
fit_stack d (in_object place done np name ne ∷ stack) l = (omega arith, fit_values d (length stack + 1) done (omega arith), fit_stack d stack (omega arith))

name_fits : (d : ℕ) (stack : List Frame) (done : List Member) → FitsName d stack done → (stack_depth stack ≤ d) × (length stack + (1 + values_depth done) ≤ d)
name_fits d stack done h = (stack_fits d stack h.2, omega (arith, values_fit d (length stack + 1) done h.0 h.1))

fit_name : (d : ℕ) (stack : List Frame) (done : List Member) → stack_depth stack ≤ d → length stack + (1 + values_depth done) ≤ d → FitsName d stack done
fit_name d stack done l m = (omega arith, fit_values d (length stack + 1) done (omega arith), fit_stack d stack l)

leaf_fits : (d : ℕ) (stack : List Frame) (leaf : Leaf) → FitsLeaf d stack leaf → (stack_depth stack ≤ d) × (length stack + leaf_depth leaf ≤ d)
leaf_fits d stack value_due h = (stack_fits d stack h, omega (arith, levels_fit d stack h))
leaf_fits d stack (value_done t) h = (stack_fits d stack h.1, omega (arith, h.0))
leaf_fits d stack (array_opened place) h = (stack_fits d stack h.1, omega (arith, h.0))
leaf_fits d stack (object_opened place) h = (stack_fits d stack h.1, omega (arith, h.0))
leaf_fits d stack (constant_on which place left) h = (stack_fits d stack h, omega (arith, levels_fit d stack h))
leaf_fits d stack (number_on place so_far) h = (stack_fits d stack h, omega (arith, levels_fit d stack h))
leaf_fits d stack (string_on place so_far state) h = (stack_fits d stack h, omega (arith, levels_fit d stack h))
leaf_fits d stack (name_due place done) h = name_fits d stack done h
leaf_fits d stack (name_on place done np so_far state) h = name_fits d stack done h
leaf_fits d stack (colon_due place done np name ne) h = name_fits d stack done h

fit_leaf : (d : ℕ) (stack : List Frame) (leaf : Leaf) → stack_depth stack ≤ d → length stack + leaf_depth leaf ≤ d → FitsLeaf d stack leaf
fit_leaf d stack value_due l m = fit_stack d stack l
fit_leaf d stack (value_done t) l m = (omega arith, fit_stack d stack l)
fit_leaf d stack (array_opened place) l m = (omega arith, fit_stack d stack l)
fit_leaf d stack (object_opened place) l m = (omega arith, fit_stack d stack l)
fit_leaf d stack (constant_on which place left) l m = fit_stack d stack l
fit_leaf d stack (number_on place so_far) l m = fit_stack d stack l
fit_leaf d stack (string_on place so_far state) l m = fit_stack d stack l
fit_leaf d stack (name_due place done) l m = fit_name d stack done l m
fit_leaf d stack (name_on place done np so_far state) l m = fit_name d stack done l m
fit_leaf d stack (colon_due place done np name ne) l m = fit_name d stack done l m

pub broken_fits : (d : ℕ) (s : Broken) → FitsBroken d s → broken_depth s ≤ d
broken_fits d text_due h = omega arith
broken_fits d mark_one h = omega arith
broken_fits d mark_two h = omega arith
broken_fits d (begun marked s) h = let g = leaf_fits d s.stack s.leaf h in omega arith

pub fit_broken : (d : ℕ) (s : Broken) → broken_depth s ≤ d → FitsBroken d s
fit_broken d (begun marked s) l = fit_leaf d s.stack s.leaf (omega arith) (omega arith)
fit_broken d _ l = tt
