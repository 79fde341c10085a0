-- Evaluation in a workspace. Behind the layering (Inner/Layering): where each operation's sources and targets begin, m words each;
-- n words of memory; and the room, in which each operation has a part for its outputs. No promise cites this file.
use Rattle.std.specs.Prelude.{ℕ, ◌+◌, ◌-◌, ◌*◌, ◌≤◌, ◌<◌, true, List, map, ◌≡◌, length, get_or, take}
use Rattle.rules.specs.Lists.{at, sum, seg, concat}
use Rattle.rules.specs.Drawing.{Drawing, Accepted, node_count, op_count, targets_of}
use Rattle.rules.specs.Analysis.{orders, layer_operations, layer_offsets}
use Rattle.rules.specs.Refusals.{workspace_need}
use Rattle.rules.specs.Evaluation.{outputs_of, suits_at, run_layer, store_all}

-- where memory begins, and the room behind it
abbrev pub memory_at : Drawing → ℕ
memory_at d = 6 * op_count d + 1

abbrev pub room_at : Drawing → ℕ
room_at d = memory_at d + node_count d

-- what memory holds
abbrev pub memory_of : Drawing → List ℕ → List ℕ
memory_of d ws = seg (memory_at d) (node_count d) ws

-- operation e's part of the room: its outputs, behind those of the operations before it
abbrev pub outputs_at : Drawing → ℕ → ℕ
outputs_at d e = room_at d + sum (take e d.target_lengths)

abbrev pub outputs_in : Drawing → List ℕ → ℕ → List ℕ
outputs_in d ws e = seg (outputs_at d e) (at d.target_lengths e) ws

-- the operation at place q, layer by layer
abbrev pub operation_at : Drawing → List ℕ → ℕ → ℕ
operation_at d ws q = get_or ws (2 * op_count d + q) 0

-- what stands before memory
pub record Tables (d : Drawing) (ws : List ℕ) : Type 0 where
  pub operations : seg (2 * op_count d) (op_count d) ws ≡ layer_operations (orders d)
  pub offsets : seg (3 * op_count d) (op_count d + 1) ws ≡ layer_offsets (orders d)
  pub sources : (e : ℕ) → e < op_count d → get_or ws (4 * op_count d + 1 + e) 0 ≡ sum (take e d.source_lengths)
  pub targets : (e : ℕ) → e < op_count d → get_or ws (5 * op_count d + 1 + e) 0 ≡ sum (take e d.target_lengths)

-- a drawing that is to be run, in a workspace with its tables
pub record Runs (d : Drawing) (ws : List ℕ) : Type 0 where
  pub accepted : Accepted d
  pub suited : (e : ℕ) → e < op_count d → suits_at d e ≡ true
  pub long : length ws ≡ workspace_need d
  pub tables : Tables d ws

-- operation e has read its inputs from a memory and written its outputs into the room
abbrev pub Ready : Drawing → (memory ws : List ℕ) → ℕ → Type 0
Ready d memory ws e = outputs_in d ws e ≡ outputs_of d memory e

-- one operation reads: only its part of the room changes
pub record Reads (d : Drawing) (e : ℕ) (ws ws' : List ℕ) : Type 0 where
  pub long : length ws' ≡ length ws
  pub front : take (room_at d) ws' ≡ take (room_at d) ws
  pub ready : Ready d (memory_of d ws) ws' e
  pub keeps : (f : ℕ) → f < op_count d → ¬ (f ≡ e) → outputs_in d ws' f ≡ outputs_in d ws f

-- the operations at the places from lo up to hi have read
pub record ReadUpTo (d : Drawing) (lo hi : ℕ) (ws ws' : List ℕ) : Type 0 where
  pub long : length ws' ≡ length ws
  pub front : take (room_at d) ws' ≡ take (room_at d) ws
  pub ready : (q : ℕ) → lo ≤ q → q < hi → Ready d (memory_of d ws) ws' (operation_at d ws q)

-- they have stored: as a layer of their own
pub record StoredUpTo (d : Drawing) (lo hi : ℕ) (ws ws' : List ℕ) : Type 0 where
  pub long : length ws' ≡ length ws
  pub front : take (memory_at d) ws' ≡ take (memory_at d) ws
  pub memory : memory_of d ws' ≡ run_layer d (seg (2 * op_count d + lo) (hi - lo) ws) (memory_of d ws)

-- memory has changed, and the tables stand
pub record Ran (d : Drawing) (memory ws ws' : List ℕ) : Type 0 where
  pub long : length ws' ≡ length ws
  pub front : take (memory_at d) ws' ≡ take (memory_at d) ws
  pub holds : memory_of d ws' ≡ memory

-- operations store what they read from one memory into another, one after the other
abbrev pub run_rest : Drawing → List ℕ → (read memory : List ℕ) → List ℕ
run_rest d es read memory = store_all (concat (map (targets_of d) es)) (concat (map (outputs_of d read) es)) memory
