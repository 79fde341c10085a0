-- Document 01, 'Refusal numbers': each number, when it is given, what a call needs, and what it leaves in the lent memory.
use Rattle.std.specs.Prelude.{ℕ, zero, suc, ◌+◌, ◌*◌, max, Bool, ◌&&◌, cond, List, [], ◌∷◌, ◌++◌, map, length, drop, replicate, leb, eqb}
use Rattle.rules.specs.Lists.{at, has, sum, range, all_below, same_list, all}
use Rattle.rules.specs.Drawing.{Drawing, Maps, Boundary, most_items, most_values, node_count, op_count, sources_of, targets_of}
use Rattle.rules.specs.Maps.{nodes_of, ops_of}
use Rattle.rules.specs.declared.Refusal.{Refusal}
use Rattle.rules.specs.declared.Refusal.TheVariants.{OverLimit, BadLengths, BadValue, BadEntry, TypeMismatchW, TypeMismatchX, NotNaturalW, NotNaturalX, NotNaturalS, NotNaturalT, ShortRoom, BadBoundary, Unplaced, WrongOperation, BadText}
use Rattle.std.specs.Prelude.{Result, Ok, Err}

-- 01's number of each refusal
abbrev pub number : Refusal → ℕ
number OverLimit = 1
number BadLengths = 2
number BadValue = 3
number BadEntry = 4
number TypeMismatchW = 5
number TypeMismatchX = 6
number NotNaturalW = 7
number NotNaturalX = 8
number NotNaturalS = 9
number NotNaturalT = 10
number ShortRoom = 11
number BadBoundary = 12
number Unplaced = 13
number WrongOperation = 14
number BadText = 15

-- the number that an answer gives, 0 for none
abbrev pub refusal_of : {A : Type 0} → Result A Refusal → ℕ
refusal_of (Ok given) = 0
refusal_of (Err why) = number why

-- A call's refusal is the first number of a list that is not 0, the list standing in 01's order.
abbrev pub or_else : ℕ → ℕ → ℕ
or_else zero b = b
or_else (suc a) b = suc a

abbrev pub first_of : List ℕ → ℕ
first_of [] = 0
first_of (a ∷ l) = or_else a (first_of l)

-- 0 where a test holds, else the number
abbrev pub unless : Bool → ℕ → ℕ
unless holds k = cond holds 0 k

-- 1: a count or declared target is over its limit
abbrev pub within : Drawing → Bool
within d = leb (node_count d) most_items && leb (op_count d) most_items && leb (length d.source_values) most_values && leb (length d.target_values) most_values

abbrev pub maps_within : Maps → Bool
maps_within f = leb f.w.target most_items && leb (length (nodes_of f)) most_items && leb f.x.target most_items && leb (length (ops_of f)) most_items

abbrev pub boundary_within : Boundary → Bool
boundary_within b = leb (length b.inputs) most_items && leb (length b.outputs) most_items

abbrev pub values_within : List ℕ → Bool
values_within values = leb (length values) most_items

-- 2: a length list has the wrong count or sum
abbrev pub lengths_fit : Drawing → Bool
lengths_fit d =
    eqb (length d.source_lengths) (op_count d) && eqb (sum d.source_lengths) (length d.source_values)
    && eqb (length d.target_lengths) (op_count d) && eqb (sum d.target_lengths) (length d.target_values)

abbrev pub bad_lengths : Drawing → ℕ
bad_lengths d = unless (lengths_fit d) 2

-- 3: a source or target value is not below n
abbrev pub values_below : Drawing → Bool
values_below d = all_below d.source_values (node_count d) && all_below d.target_values (node_count d)

abbrev pub bad_value : Drawing → ℕ
bad_value d = unless (values_below d) 3

-- 4: a map entry is not below its declared target
abbrev pub entries_below : Maps → Bool
entries_below f = all_below (nodes_of f) f.w.target && all_below (ops_of f) f.x.target

abbrev pub bad_entry : Maps → ℕ
bad_entry f = unless (entries_below f) 4

-- 5, 6: w has not n(source) entries or declares a target other than n(target); likewise for x
abbrev pub type_mismatch_w : Drawing → Drawing → Maps → ℕ
type_mismatch_w c d f = unless (eqb (length (nodes_of f)) (node_count c) && eqb f.w.target (node_count d)) 5

abbrev pub type_mismatch_x : Drawing → Drawing → Maps → ℕ
type_mismatch_x c d f = unless (eqb (length (ops_of f)) (op_count c) && eqb f.x.target (op_count d)) 6

-- 7, 8: labels are not carried
abbrev pub not_natural_w : Drawing → Drawing → Maps → ℕ
not_natural_w c d f = unless (same_list (map (at d.nodes) (nodes_of f)) c.nodes) 7

abbrev pub not_natural_x : Drawing → Drawing → Maps → ℕ
not_natural_x c d f = unless (same_list (map (at d.ops) (ops_of f)) c.ops) 8

-- 9, 10: for some operation its list, carried through w, is not the list of its image, in order
abbrev pub not_natural_s : Drawing → Drawing → Maps → ℕ
not_natural_s c d f = unless (all (λ e. same_list (sources_of d (at (ops_of f) e)) (map (at (nodes_of f)) (sources_of c e))) (range (op_count c))) 9

abbrev pub not_natural_t : Drawing → Drawing → Maps → ℕ
not_natural_t c d f = unless (all (λ e. same_list (targets_of d (at (ops_of f) e)) (map (at (nodes_of f)) (targets_of c e))) (range (op_count c))) 10

-- 11: an output or the workspace is shorter than needed
abbrev pub short_room : ℕ → ℕ → ℕ
short_room need room = unless (leb need room) 11

-- W: the words of workspace that a call on a drawing needs; with two drawings, of the target
abbrev pub workspace_need : Drawing → ℕ
workspace_need d = 8 * (node_count d + op_count d) + 2 * (length d.source_values + length d.target_values) + 8

-- what stands for W in `is_monomorphism`
abbrev pub maps_need : Maps → ℕ
maps_need f = max f.w.target f.x.target

-- 12: a boundary entry is not below n
abbrev pub boundary_below : ℕ → Boundary → Bool
boundary_below n b = all_below b.inputs n && all_below b.outputs n

abbrev pub bad_boundary : Drawing → Boundary → ℕ
bad_boundary d b = unless (boundary_below (node_count d) b) 12

-- Calls refused with 1, 2, 3, 4, 11 or 12 leave the workspace untouched.
-- Every other call leaves its first W words zero and the rest untouched.
abbrev pub early : List ℕ
early = 1 ∷ 2 ∷ 3 ∷ 4 ∷ 11 ∷ 12 ∷ []

abbrev pub left_over : ℕ → ℕ → List ℕ → List ℕ
left_over refusal words ws = cond (has early refusal) ws (replicate words 0 ++ drop words ws)

-- An output longer than needed keeps its tail; a refusal keeps all of it.
abbrev pub written : ℕ → List ℕ → List ℕ → List ℕ
written refusal new out = cond (eqb refusal 0) (new ++ drop (length new) out) out
