-- Document 01, 'Rules of the analysis', over a drawing: converses, adjacencies, acyclic, orders and marks, layers.
use Rattle.std.specs.Prelude.{ℕ, ◌+◌, ◌-◌, Bool, true, ◌&&◌, cond, List, [], ◌∷◌, map, length, eqb, leb, ltb}
use Rattle.rules.specs.Lists.{◌∈◌, at, concat, range, seg, those}
use Rattle.rules.specs.Drawing.{Drawing, part, sources_of, targets_of, op_count}
use Rattle.rules.specs.Graph.{NoCycle, orders_of, marks_of}

-- Converse: for each node, the operations that list it, ascending, once per listing.
-- e, once for each place of l that holds v
abbrev pub copies : ℕ → ℕ → List ℕ → List ℕ
copies v e [] = []
copies v e (a ∷ l) = cond (eqb a v) (e ∷ copies v e l) (copies v e l)

unfoldable pub converse : List ℕ → List ℕ → ℕ → List ℕ
converse lens vals v = concat (map (λ e. copies v e (part lens vals e)) (range (length lens)))

-- the operations that list v as a source, and those that list it as a target
abbrev pub leaving : Drawing → ℕ → List ℕ
leaving d v = converse d.source_lengths d.source_values v

abbrev pub entering : Drawing → ℕ → List ℕ
entering d v = converse d.target_lengths d.target_values v

-- Node adjacency of v: for each entry of v's converse source list, that operation's targets in order.
unfoldable pub node_next : Drawing → ℕ → List ℕ
node_next d v = concat (map (targets_of d) (leaving d v))

-- Operation adjacency of e: for each target of e in order, the converse source list of that node.
unfoldable pub op_next : Drawing → ℕ → List ℕ
op_next d e = concat (map (leaving d) (targets_of d e))

-- A directed target path steps from u to v by operation e where e lists u as a source and v as a target.
pub record Step (d : Drawing) (u e v : ℕ) : Type 0 where
  pub source : u ∈ sources_of d e
  pub target : v ∈ targets_of d e

-- Acyclic: no node lies on a directed cycle. (Facts/Adjacent: of node adjacency.)
abbrev pub Acyclic : Drawing → Type 0
Acyclic d = NoCycle (Step d)

-- The operations' orders and marks.
abbrev pub orders : Drawing → List ℕ
orders d = orders_of (op_next d) (op_count d)

abbrev pub marks : Drawing → List ℕ
marks d = marks_of (op_next d) (op_count d)

-- Layers: exactly m, many empty; layer i lists the operations of order i, ascending, unplaced ones therefore in layer 0.
unfoldable pub layer_of : List ℕ → ℕ → List ℕ
layer_of os i = those (λ e. eqb (at os e) i) (range (length os))

abbrev pub layers : List ℕ → List (List ℕ)
layers os = map (layer_of os) (range (length os))

-- as written: all layers one behind the other, and where each begins, with the end of the last
unfoldable pub starts : ℕ → List (List ℕ) → List ℕ
starts from [] = from ∷ []
starts from (l ∷ ls) = from ∷ starts (from + length l) ls

abbrev pub layer_operations : List ℕ → List ℕ
layer_operations os = concat (layers os)

abbrev pub layer_offsets : List ℕ → List ℕ
layer_offsets os = starts 0 (layers os)

-- Offsets are sound: one more than the operations, first 0, never falling, last their number.
unfoldable pub rising : List ℕ → Bool
rising [] = true
rising (a ∷ []) = true
rising (a ∷ b ∷ l) = leb a b && rising (b ∷ l)

unfoldable pub sound : List ℕ → List ℕ → Bool
sound ops offsets = eqb (length offsets) (length ops + 1) && eqb (at offsets 0) 0 && rising offsets && eqb (at offsets (length ops)) (length ops)

-- The part of layer i; the empty part on an unknown layer or bad offsets.
unfoldable pub layer_part : List ℕ → List ℕ → ℕ → List ℕ
layer_part ops offsets i = cond (sound ops offsets && ltb i (length ops)) (seg (at offsets i) (at offsets (i + 1) - at offsets i) ops) []
