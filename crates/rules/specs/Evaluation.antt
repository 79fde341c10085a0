-- Document 01, 'Evaluation and its operations': the operation table, the memory, one layer, the whole.
use Rattle.std.specs.Prelude.{ℕ, suc, ◌+◌, ◌-◌, ◌/◌, ◌%◌, ◌^◌, min, max, Bool, false, ◌&&◌, cond, List, [], ◌∷◌, map, length, get_or, set, replicate, leb, eqb}
use Rattle.rules.specs.Lists.{at, has, all, concat, range}
use Rattle.rules.specs.Drawing.{Drawing, Boundary, node_count, op_count, sources_of, targets_of}
use Rattle.rules.specs.Analysis.{orders, marks, layers}
use Rattle.rules.specs.Refusals.{unless}

-- The operation table. What a label stands for:
pub data Operation : Type 0 where
  copy : Operation
  add : Operation
  difference : Operation
  smallest : Operation
  largest : Operation
  middle : Operation
  choose : Operation
  first_smallest : Operation
  shift : ℕ → Operation
  constant : ℕ → Operation
  unknown : Operation

-- the single codes, 0 to 7
abbrev pub singles : List Operation
singles = copy ∷ add ∷ difference ∷ smallest ∷ largest ∷ middle ∷ choose ∷ first_smallest ∷ []

-- 16..31 shift, 256..511 are constants, all others are unknown
unfoldable pub operation : ℕ → Operation
operation label =
    cond (leb 16 label && leb label 31) (shift (label - 16))
    (cond (leb 256 label && leb label 511) (constant (label - 256))
    (get_or singles label unknown))

-- Inputs, outputs: do their numbers suit the operation?
abbrev pub suits : Operation → ℕ → ℕ → Bool
suits copy ins outs = eqb ins 1 && leb 1 outs
suits add ins outs = eqb ins 2 && eqb outs 1
suits difference ins outs = eqb ins 2 && eqb outs 1
suits smallest ins outs = leb 1 ins && eqb outs 1
suits largest ins outs = leb 1 ins && eqb outs 1
suits middle ins outs = eqb ins 2 && eqb outs 1
suits choose ins outs = eqb ins 3 && eqb outs 1
suits first_smallest ins outs = leb 1 ins && eqb outs 1
suits (shift k) ins outs = eqb ins 1 && eqb outs 1
suits (constant k) ins outs = eqb ins 0 && eqb outs 1
suits unknown ins outs = false

-- the smallest and the largest of one or more numbers
abbrev pub least : List ℕ → ℕ
least [] = 0
least (a ∷ []) = a
least (a ∷ b ∷ l) = min a (least (b ∷ l))

abbrev pub most : List ℕ → ℕ
most [] = 0
most (a ∷ []) = a
most (a ∷ b ∷ l) = max a (most (b ∷ l))

-- the place of the first entry that is v
unfoldable pub place_of : ℕ → List ℕ → ℕ
place_of v [] = 0
place_of v (a ∷ l) = cond (eqb a v) 0 (suc (place_of v l))

-- Result, for numbers of inputs and outputs that suit.
abbrev pub outcome : Operation → List ℕ → ℕ → List ℕ
outcome copy ins outs = replicate outs (at ins 0)
outcome add ins outs = ((at ins 0 + at ins 1) % 2 ^ 32) ∷ []
outcome difference ins outs = (max (at ins 0) (at ins 1) - min (at ins 0) (at ins 1)) ∷ []
outcome smallest ins outs = least ins ∷ []
outcome largest ins outs = most ins ∷ []
outcome middle ins outs = ((at ins 0 + at ins 1) % 2 ^ 32 / 2) ∷ []
outcome choose ins outs = cond (eqb (at ins 0) 0) (at ins 2) (at ins 1) ∷ []
outcome first_smallest ins outs = place_of (least ins) ins ∷ []
outcome (shift k) ins outs = (at ins 0 / 2 ^ k) ∷ []
outcome (constant k) ins outs = k ∷ []
outcome unknown ins outs = []

-- Values are stored at places one by one, stopping at the shorter list, later ones over earlier ones.
unfoldable pub store_all : List ℕ → List ℕ → List ℕ → List ℕ
store_all [] values memory = memory
store_all (p ∷ places) [] memory = memory
store_all (p ∷ places) (v ∷ values) memory = store_all places values (set memory p v)

-- Memory is n words, all 0; input values are then stored at the input list.
abbrev pub start_memory : Drawing → Boundary → List ℕ → List ℕ
start_memory d b values = store_all b.inputs values (replicate (node_count d) 0)

-- an operation's outputs, its inputs read from a memory
abbrev pub outputs_of : Drawing → List ℕ → ℕ → List ℕ
outputs_of d memory e = outcome (operation (at d.ops e)) (map (at memory) (sources_of d e)) (length (targets_of d e))

-- Each layer reads all its inputs first, then stores its operations' outputs in ascending operation order.
unfoldable pub run_layer : Drawing → List ℕ → List ℕ → List ℕ
run_layer d es memory = store_all (concat (map (targets_of d) es)) (concat (map (outputs_of d memory) es)) memory

-- layer after layer
unfoldable pub run : Drawing → List (List ℕ) → List ℕ → List ℕ
run d [] memory = memory
run d (es ∷ ls) memory = run d ls (run_layer d es memory)

-- The answer is the values at the output list.
unfoldable pub evaluated : Drawing → Boundary → List ℕ → List ℕ
evaluated d b values = map (at (run d (layers (orders d)) (start_memory d b values))) b.outputs

-- 13: some operation is unplaced
abbrev pub unplaced_op : Drawing → ℕ
unplaced_op d = cond (has (marks d) 1) 13 0

-- 14: unknown label, or its operation has the wrong number of inputs or outputs
abbrev pub suits_at : Drawing → ℕ → Bool
suits_at d e = suits (operation (at d.ops e)) (length (sources_of d e)) (length (targets_of d e))

abbrev pub wrong_operation : Drawing → ℕ
wrong_operation d = unless (all (suits_at d) (range (op_count d))) 14
