use Rattle.std.proofs.Common.{ℕ, ◌+◌, ◌-◌, ◌≤◌, arith, length}
use Rattle.rules.specs.Drawing.{Drawing, node_count, op_count}
use Rattle.rules.specs.Lent.{drawing_of}
use Rattle.rules.specs.Lists.{row_entries}
use Rattle.rules.specs.Analysis.{node_next, op_next}
use Rattle.rules.proofs.Facts.Flat.{node_rows, node_joinable, node_room, op_rows, op_joinable, op_room}
use Rattle.hypergraph.proofs.adjacency.join.Goals.{Start, In-Nodes, In-Operations}
use Rattle.hypergraph.proofs.adjacency.join.Goals as goal

module _ (s : Start) where
  abbrev d : Drawing
  d = drawing_of s.args.d.now.drawing

  -- the words of the parts
  abbrev p : ℕ
  p = length d.nodes + 1 + length d.source_values - (length d.nodes + 1)

  abbrev q : ℕ
  q = length d.nodes + 1 + length d.source_values + (length d.target_lengths + 1) - (length d.nodes + 1 + length d.source_values)

module _ (c : In-Nodes) where
  node_rooms : (node_count (drawing_of c.args.d.now.drawing) ≤ length c.args.lens.now) × (length (row_entries (node_next (drawing_of c.args.d.now.drawing)) (node_count (drawing_of c.args.d.now.drawing))) ≤ length c.args.vals.now)
  node_rooms = rw c.in-Nodes.is at c.requires.room

module _ (c : In-Operations) where
  op_rooms : (op_count (drawing_of c.args.d.now.drawing) ≤ length c.args.lens.now) × (length (row_entries (op_next (drawing_of c.args.d.now.drawing)) (op_count (drawing_of c.args.d.now.drawing))) ≤ length c.args.vals.now)
  op_rooms = rw c.in-Operations.is at c.requires.room

pub flatmap-requires-clause-joinable : goal.flatmap-requires-clause-joinable
flatmap-requires-clause-joinable c =
    let s = (goal.at.flatmap-requires-clause-joinable c).Start in
    node_joinable (d s) c.args.d.now.accepted (p s) (q s) c.args.ws.now (omega arith) (omega arith) c.requires.tables

pub flatmap-requires-clause-k_in_bounds : goal.flatmap-requires-clause-k_in_bounds
flatmap-requires-clause-k_in_bounds c =
    let s = (goal.at.flatmap-requires-clause-k_in_bounds c).Start in
    let r = node_rooms (goal.at.flatmap-requires-clause-k_in_bounds c).In-Nodes in
    (r.0, omega (arith, node_room (d s) c.args.d.now.accepted (p s) (q s) c.args.ws.now (omega arith) (omega arith) c.requires.tables, r.1))

pub flatmap-requires-in-Operations-clause-joinable : goal.flatmap-requires-in-Operations-clause-joinable
flatmap-requires-in-Operations-clause-joinable c =
    let s = (goal.at.flatmap-requires-in-Operations-clause-joinable c).Start in
    op_joinable (d s) c.args.d.now.accepted (p s) (q s) c.args.ws.now (omega arith) (omega arith) c.requires.tables

pub flatmap-requires-in-Operations-clause-k_in_bounds : goal.flatmap-requires-in-Operations-clause-k_in_bounds
flatmap-requires-in-Operations-clause-k_in_bounds c =
    let s = (goal.at.flatmap-requires-in-Operations-clause-k_in_bounds c).Start in
    let r = op_rooms (goal.at.flatmap-requires-in-Operations-clause-k_in_bounds c).In-Operations in
    (r.0, omega (arith, op_room (d s) c.args.d.now.accepted (p s) (q s) c.args.ws.now (omega arith) (omega arith) c.requires.tables, r.1))

pub returns-in-Nodes : goal.returns-in-Nodes
returns-in-Nodes c =
    let s = (goal.at.returns-in-Nodes c).Start in
    rw c.in-Nodes.is (node_rows (d s) c.args.d.now.accepted (p s) (q s) c.args.ws.now (omega arith) (omega arith) c.requires.tables c.flatmap.ensures)

pub returns-in-Operations : goal.returns-in-Operations
returns-in-Operations c =
    let s = (goal.at.returns-in-Operations c).Start in
    rw c.in-Operations.is (op_rows (d s) c.args.d.now.accepted (p s) (q s) c.args.ws.now (omega arith) (omega arith) c.requires.tables c.flatmap-in-Operations.ensures)
