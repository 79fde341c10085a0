-- Evaluation in a workspace: the tables stand, each operation writes into its own part of the room, and a layer's outputs are stored in order.
use Rattle.std.specs.Prelude.{ℕ, ◌+◌, ◌-◌, ◌*◌, ◌≤◌, ◌<◌, ◌^◌, Bool, true, false, cond, ◌⊎◌, eqb, List, [], ◌∷◌, ◌++◌, map, ◌≡◌, refl, length, get_or, take, drop, replicate}
use native.Mathlib.Omega.{arith}
use Rattle.std.proofs.Common.{add-one, inl, inr, ap, ◌∙◌, take-append-drop, length-take-le, get_or-take, take_at, take-take, take_all, drop-drop, drop-cons}
use Rattle.std.proofs.Math.Decide.{ℕ_discrete, dec_lt}
use mathlib.Core.List.Memᴰ
use Rattle.std.proofs.Math.Path.{sym}
use Rattle.std.proofs.lemmas.List.{length-map}
use Rattle.std.proofs.Math.ListN.{drop_of_length-le}
use Rattle.rules.specs.Lists.{◌∈◌, at, sum, seg, those, range, concat}
use Rattle.rules.proofs.Facts.Segments.{seg_in_take, seg-length, back-length, back-seg-before, back-seg_after, seg-at, back-seg}
use Rattle.rules.specs.Drawing.{Drawing, Accepted, part, node_count, Fits, op_count, sources_of, targets_of, most_items, most_values}
use Rattle.rules.specs.Inner.Running.{memory_at, Runs, outputs_at, Tables, memory_of, Reads, outputs_in, room_at, Ready, run_rest, ReadUpTo, operation_at, StoredUpTo, Ran}
use Rattle.rules.specs.Refusals.{workspace_need}
use Rattle.rules.proofs.Facts.Placing.{sum-take_le, sum-all, sum-take, below_mono, below_le}
use Rattle.rules.proofs.Facts.Evaluating.{back_over, store_append, store_length}
use Rattle.rules.specs.Evaluation.{outcome, outputs_of, suits, operation, run_layer, run, store_all, suits_at}
use Rattle.rules.proofs.Facts.Member.{∈-part, ∈-range, concat_e, get_or-∈}
use Rattle.rules.proofs.Facts.Operating.{outputs_length, same_outputs}
use Rattle.rules.specs.Analysis.{orders, layer_offsets, layer_operations, layer_of, layers}
use Rattle.rules.specs.Inner.Words.{below, back}
use Rattle.rules.specs.Inner.Operating.{Suited, Placed}
use Rattle.rules.proofs.Facts.Layers.{orders_low, offset_at, layer_inside, operations-length, layers-length, layer-at}
use Rattle.rules.proofs.Facts.Orders.{orders_sorted}
use Rattle.rules.proofs.Facts.Counts.{drop_more}

-- equal fronts: the same word at each place, the same segments
module _ (k : ℕ) (ws ws' : List ℕ) (e : take k ws' ≡ take k ws) where
  pub front_at : (p : ℕ) → p < k → get_or ws' p 0 ≡ get_or ws p 0
  front_at p h = sym (get_or-take k ws' p 0 h) ∙ ap (λ (l : List ℕ). get_or l p 0) e ∙ get_or-take k ws p 0 h

  pub front_seg : (b len : ℕ) → b + len ≤ k → seg b len ws' ≡ seg b len ws
  front_seg b len h = sym (seg_in_take b len k ws' h) ∙ ap (seg b len) e ∙ seg_in_take b len k ws h

  pub front_less : (j : ℕ) → j ≤ k → take j ws' ≡ take j ws
  front_less j h = sym (take-take j k ws' h) ∙ ap (take j) e ∙ take-take j k ws h

-- the front before a part that has come back
pub back_front : (a k : ℕ) (ys ws : List ℕ) → a ≤ length ws → (j : ℕ) → j ≤ a → take j (back a k ys ws) ≡ take j ws
back_front a k ys ws h j g = front_less a ws (back a k ys ws) (take_at (take a ws) (ys ++ drop k (drop a ws)) a (length-take-le a ws h)) j g

-- an operation's lists, by the lengths
module _ (d : Drawing) (a : Accepted d) where
  fits_in : (n m : ℕ) (lens vals : List ℕ) → Fits n m lens vals → (e : ℕ) → sum (take e lens) + at lens e ≤ length vals
  fits_in n m lens vals f e = omega (arith, sum-take lens e, within (e + 1), f.total)
    where
      within : (k : ℕ) → sum (take k lens) ≤ sum lens
      within k = go (dec_lt k (length lens))
        where
          go : Dec (k < length lens) → sum (take k lens) ≤ sum lens
          go (yes h) = omega (arith, sum-take_le lens k (length lens) (omega arith), sum-all lens)
          go (no h) = rw (take_all k lens (omega arith)) (omega arith)

  pub sources_in : (e : ℕ) → sum (take e d.source_lengths) + at d.source_lengths e ≤ length d.source_values
  sources_in = fits_in (node_count d) (op_count d) d.source_lengths d.source_values a.sources

  pub targets_in : (e : ℕ) → sum (take e d.target_lengths) + at d.target_lengths e ≤ length d.target_values
  targets_in = fits_in (node_count d) (op_count d) d.target_lengths d.target_values a.targets

  pub sources_long : (e : ℕ) → length (sources_of d e) ≡ at d.source_lengths e
  unfolding part
  sources_long e = seg-length (sum (take e d.source_lengths)) (at d.source_lengths e) d.source_values (sources_in e)

  pub targets_long : (e : ℕ) → length (targets_of d e) ≡ at d.target_lengths e
  unfolding part
  targets_long e = seg-length (sum (take e d.target_lengths)) (at d.target_lengths e) d.target_values (targets_in e)

  -- the parts of the room stand one behind the other
  pub parts_apart : (e f : ℕ) → e < f → outputs_at d e + at d.target_lengths e ≤ outputs_at d f
  parts_apart e f h = omega (arith, sum-take d.target_lengths e, sum-take_le d.target_lengths (e + 1) f (omega arith))

  -- and fit into the workspace
  pub part_fits : (ws : List ℕ) → length ws ≡ workspace_need d → (e : ℕ) → outputs_at d e + at d.target_lengths e ≤ length ws
  part_fits ws long e = omega (arith, targets_in e)

-- the tables are kept where the front is
pub tables_kept : (d : Drawing) (ws ws' : List ℕ) → take (memory_at d) ws' ≡ take (memory_at d) ws → Tables d ws → Tables d ws'
tables_kept d ws ws' e t =
    record {
      operations = front_seg (memory_at d) ws ws' e (2 * op_count d) (op_count d) (omega arith) ∙ t.operations;
      offsets = front_seg (memory_at d) ws ws' e (3 * op_count d) (op_count d + 1) (omega arith) ∙ t.offsets;
      sources = λ o h. front_at (memory_at d) ws ws' e (4 * op_count d + 1 + o) (omega arith) ∙ t.sources o h;
      targets = λ o h. front_at (memory_at d) ws ws' e (5 * op_count d + 1 + o) (omega arith) ∙ t.targets o h;
    }

pub runs_kept : (d : Drawing) (ws ws' : List ℕ) → length ws' ≡ length ws → take (memory_at d) ws' ≡ take (memory_at d) ws → Runs d ws → Runs d ws'
runs_kept d ws ws' l e r = record { accepted = r.accepted; suited = r.suited; long = l ∙ r.long; tables = tables_kept d ws ws' e r.tables }

-- the numbers that an operation's lists and its part of the room come with
pub record Sizes (d : Drawing) (ws : List ℕ) (e : ℕ) : Type 0 where
  pub nodes_few : node_count d ≤ most_items
  pub ops_few : op_count d ≤ most_items
  pub sources_few : length d.source_values ≤ most_values
  pub targets_few : length d.target_values ≤ most_values
  pub source_lists : length d.source_lengths ≡ op_count d
  pub target_lists : length d.target_lengths ≡ op_count d
  pub source_start : get_or ws (4 * op_count d + 1 + e) 0 ≡ sum (take e d.source_lengths)
  pub target_start : get_or ws (5 * op_count d + 1 + e) 0 ≡ sum (take e d.target_lengths)
  pub source_end : sum (take e d.source_lengths) + at d.source_lengths e ≤ length d.source_values
  pub target_end : sum (take e d.target_lengths) + at d.target_lengths e ≤ length d.target_values
  pub room : length ws ≡ workspace_need d

pub sizes : (d : Drawing) (ws : List ℕ) → Runs d ws → (e : ℕ) → e < op_count d → Sizes d ws e
sizes d ws r e h =
    record {
      nodes_few = r.accepted.few_nodes;
      ops_few = r.accepted.few_ops;
      sources_few = r.accepted.sources.room;
      targets_few = r.accepted.targets.room;
      source_lists = r.accepted.sources.count;
      target_lists = r.accepted.targets.count;
      source_start = r.tables.sources e h;
      target_start = r.tables.targets e h;
      source_end = sources_in d r.accepted e;
      target_end = targets_in d r.accepted e;
      room = r.long;
    }

-- an operation that reads from the memory in a workspace, and writes into its own part behind it
module _ (base n from label outs : ℕ) (places ws : List ℕ) (suited : suits (operation label) (length places) outs ≡ true) where
  -- what `value` asks of the memory, n words that are lent for reading
  pub value_asks : (k : ℕ) → k ≡ n → base + n ≤ length ws → ((u : ℕ) → u ∈ places → u < n) → length places < 2 ^ 32
      → (Placed (seg base k ws) places × (length places < 2 ^ 32)) × Suited (operation label) (length places)
  value_asks k e fits low few = rw (e, seg-length base n ws fits) ((low, few), (outs, suited))

  -- the part that `write` was lent holds the outputs
  pub written_back : (k j v : ℕ) (ys : List ℕ) → k ≡ n → j ≡ outs → from + outs ≤ length ws → v ≡ at (outcome (operation label) (map (at (seg base k ws)) places) 1) 0
      → ys ≡ replicate (length (seg from j ws)) v → back from j ys ws ≡ back from outs (outcome (operation label) (map (at (seg base n ws)) places) outs) ws
  written_back k j v ys e f fits p q =
      rw (f, q, seg-length from j ws (omega arith) ∙ f, p, e)
      (ap (λ (l : List ℕ). back from outs l ws)
      (sym (same_outputs (operation label) (map (at (seg base n ws)) places) outs (rw (length-map places (at (seg base n ws))) suited))))

-- as many outputs as targets
pub outputs_many : (d : Drawing) (e : ℕ) (memory : List ℕ) → suits_at d e ≡ true → length (outputs_of d memory e) ≡ length (targets_of d e)
outputs_many d e memory s =
    outputs_length (operation (at d.ops e)) (map (at memory) (sources_of d e)) (length (targets_of d e)) (rw (length-map (sources_of d e) (at memory)) s)

-- one operation of a drawing that is to be run
pub part_slice : (lens vals : List ℕ) (e s : ℕ) → s ≡ sum (take e lens) → take (s + at lens e - s) (drop s vals) ≡ part lens vals e
unfolding part
part_slice lens vals e s q = let c : s + at lens e - s ≡ at lens e = omega arith in rw (c, q)

module _ (d : Drawing) (ws : List ℕ) (r : Runs d ws) (e : ℕ) (h : e < op_count d) where
  abbrev M : List ℕ
  M = memory_of d ws

  pub source_low : (u : ℕ) → u ∈ sources_of d e → u < node_count d
  source_low u m = r.accepted.sources.below u (∈-part d.source_lengths d.source_values e m)

  pub target_low : (u : ℕ) → u ∈ targets_of d e → u < node_count d
  target_low u m = r.accepted.targets.below u (∈-part d.target_lengths d.target_values e m)

  pub suits_here : suits (operation (at d.ops e)) (length (sources_of d e)) (at d.target_lengths e) ≡ true
  suits_here = rw (← targets_long d r.accepted e) (r.suited e h)

  -- what `work` asks, and what `scatter_within` does
  pub work_asks : (places : List ℕ) (from : ℕ) → places ≡ sources_of d e → from ≡ outputs_at d e
      → (((u : ℕ) → u ∈ places → u < node_count d) × (memory_at d + node_count d ≤ length ws) × (from + at d.target_lengths e ≤ length ws))
      × ((suits (operation (at d.ops e)) (length places) (at d.target_lengths e) ≡ true) × (length places < 2 ^ 32))
  work_asks places from p q =
      rw (p, q) (
        (source_low, omega (arith, r.long), part_fits d r.accepted ws r.long e),
        (suits_here, omega (arith, sources_long d r.accepted e, sources_in d r.accepted e, r.accepted.sources.room)),
      )

  pub scatter_asks : (places : List ℕ) (from : ℕ) → places ≡ targets_of d e → from ≡ outputs_at d e
      → ((u : ℕ) → u ∈ places → u < node_count d) × (memory_at d + node_count d ≤ from) × (from + length places ≤ length ws)
  scatter_asks places from p q = rw (p, q) (target_low, omega arith, omega (arith, targets_long d r.accepted e, part_fits d r.accepted ws r.long e))

  pub scattered_one : (places : List ℕ) (from : ℕ) (ws' : List ℕ) → places ≡ targets_of d e → from ≡ outputs_at d e
      → ws' ≡ back (memory_at d) (node_count d) (store_all places (seg from (length places) ws) (seg (memory_at d) (node_count d) ws)) ws
      → ws' ≡ back (memory_at d) (node_count d) (store_all (targets_of d e) (outputs_in d ws e) (memory_of d ws)) ws
  scattered_one places from ws' p q c = c ∙ rw (p, q, targets_long d r.accepted e)

  pub outputs_long : (memory : List ℕ) → length (outputs_of d memory e) ≡ length (targets_of d e)
  outputs_long memory = outputs_many d e memory (r.suited e h)

  abbrev outs : ℕ
  outs = at d.target_lengths e

  abbrev done : List ℕ
  done = back (outputs_at d e) outs (outputs_of d M e) ws

  done_long : length (outputs_of d M e) ≡ outs
  done_long = outputs_long M ∙ targets_long d r.accepted e

  done_fits : outputs_at d e + outs ≤ length ws
  done_fits = part_fits d r.accepted ws r.long e

  done_keeps : (f : ℕ) → Dec (f < e) → ¬ (f ≡ e) → outputs_in d done f ≡ outputs_in d ws f
  done_keeps f (yes l) n = back-seg-before (outputs_at d e) outs (outputs_of d M e) ws done_fits done_long (outputs_at d f) (at d.target_lengths f) (parts_apart d r.accepted f e l)
  done_keeps f (no l) n =
      back-seg_after (outputs_at d e) outs (outputs_of d M e) ws done_fits done_long (outputs_at d f) (at d.target_lengths f)
      (parts_apart d r.accepted e f (omega arith)) (part_fits d r.accepted ws r.long f)

  done_reads : Reads d e ws done
  done_reads =
      record {
        long = back-length (outputs_at d e) outs (outputs_of d M e) ws done_fits done_long;
        front = back_front (outputs_at d e) outs (outputs_of d M e) ws (omega (arith, done_fits)) (room_at d) (omega arith);
        ready = back-seg (outputs_at d e) outs (outputs_of d M e) ws done_fits done_long;
        keeps = λ f l n. done_keeps f (dec_lt f e) n;
      }

  pub reads_one : (places : List ℕ) (from : ℕ) (ws' : List ℕ) → places ≡ sources_of d e → from ≡ outputs_at d e
      → ws' ≡ back from outs (outcome (operation (at d.ops e)) (map (at M) places) outs) ws → Reads d e ws ws'
  reads_one places from ws' p q c =
      let same : back from outs (outcome (operation (at d.ops e)) (map (at M) places) outs) ws ≡ done = rw (p, q, ← targets_long d r.accepted e) in rw (c ∙ same) done_reads

-- a segment of a segment
seg-seg : (a n b len : ℕ) (l : List ℕ) → b + len ≤ n → seg (a + b) len l ≡ seg b len (seg a n l)
seg-seg a n b len l h = rw (← drop-drop b a l) (sym (seg_in_take b len n (drop a l) h))

-- an operation of a layer is one of the drawing
those-∈ : (p : ℕ → Bool) (l : List ℕ) {u : ℕ} → u ∈ those p l → u ∈ l
unfolding those
those-∈ p [] m = m
those-∈ p (a ∷ l) {u} m = go (those-∈ p l {u = u}) (p a) m
  where
    go : (u ∈ those p l → u ∈ l) → (b : Bool) → u ∈ cond b (a ∷ those p l) (those p l) → u ∈ (a ∷ l)
    go ih false m = Memᴰ.tail (ih m)
    go ih true m = here ih (Memᴰ.cases_cons m)
      where
        here : (u ∈ those p l → u ∈ l) → (u ≡ a) ⊎ (u ∈ those p l) → u ∈ (a ∷ l)
        here ih (inl e) = Memᴰ.head e
        here ih (inr m) = Memᴰ.tail (ih m)

pub layer-∈ : (os : List ℕ) (i : ℕ) {u : ℕ} → u ∈ layer_of os i → u < length os
unfolding layer_of
layer-∈ os i {u} m = ∈-range (length os) u (those-∈ (λ e. eqb (at os e) i) (range (length os)) m)

-- the operations of the table are the drawing's
module _ (d : Drawing) (ws : List ℕ) (r : Runs d ws) where
  low_orders : (u : ℕ) → u ∈ orders d → u < length (orders d)
  low_orders u m = omega (arith, orders_low r.accepted u m, (orders_sorted r.accepted).orders_long)

  many : length (orders d) ≡ op_count d
  many = (orders_sorted r.accepted).orders_long

  table_long : (4 * op_count d + 1 ≤ length ws) × (2 * op_count d + op_count d ≤ length ws)
  table_long = (omega (arith, r.long), omega (arith, r.long))

  pub operation_is : (q : ℕ) → q < op_count d → operation_at d ws q ≡ at (layer_operations (orders d)) q
  operation_is q h = sym (seg-at (2 * op_count d) (op_count d) ws q h) ∙ ap (λ (l : List ℕ). at l q) r.tables.operations

  listed_low : (u : ℕ) → u ∈ layer_operations (orders d) → u < op_count d
  listed_low u m = let p = concat_e (layer_of (orders d)) (range (length (orders d))) m in omega (arith, layer-∈ (orders d) p.0 p.2, many)

  pub operation_low : (q : ℕ) → q < op_count d → operation_at d ws q < op_count d
  operation_low q h = rw (operation_is q h) (listed_low (at (layer_operations (orders d)) q) (get_or-∈ (layer_operations (orders d)) q (omega (arith, operations-length (orders d) low_orders, many))))

  -- a layer is the part between two offsets
  offset_is : (i : ℕ) → i ≤ op_count d → get_or ws (3 * op_count d + i) 0 ≡ at (layer_offsets (orders d)) i
  offset_is i h = sym (seg-at (3 * op_count d) (op_count d + 1) ws i (omega arith)) ∙ ap (λ (l : List ℕ). at l i) r.tables.offsets

  pub offsets_rise : (i : ℕ) → i < op_count d → (get_or ws (3 * op_count d + i) 0 ≤ get_or ws (3 * op_count d + i + 1) 0) × (get_or ws (3 * op_count d + i + 1) 0 ≤ op_count d)
  offsets_rise i h =
      let a : get_or ws (3 * op_count d + i) 0 ≡ below i (orders d) = offset_is i (omega arith) ∙ offset_at (orders d) i (omega (arith, many)) in
      let p : 3 * op_count d + i + 1 ≡ 3 * op_count d + (i + 1) = omega arith in
      let b : get_or ws (3 * op_count d + i + 1) 0 ≡ below (i + 1) (orders d) = ap (λ (j : ℕ). get_or ws j 0) p ∙ offset_is (i + 1) (omega arith) ∙ offset_at (orders d) (i + 1) (omega (arith, many)) in
      (omega (arith, a, b, below_mono i (i + 1) (orders d) (omega arith)), omega (arith, b, below_le (i + 1) (orders d), many))

  pub layer_between : (i lo hi : ℕ) → i < op_count d → lo ≡ get_or ws (3 * op_count d + i) 0 → hi ≡ get_or ws (3 * op_count d + i + 1) 0 → seg (2 * op_count d + lo) (hi - lo) ws ≡ layer_of (orders d) i
  layer_between i lo hi h a b =
      let p : 3 * op_count d + i + 1 ≡ 3 * op_count d + (i + 1) = omega arith in
      let a' : lo ≡ at (layer_offsets (orders d)) i = a ∙ offset_is i (omega arith) in
      let b' : hi ≡ at (layer_offsets (orders d)) (i + 1) = b ∙ ap (λ (j : ℕ). get_or ws j 0) p ∙ offset_is (i + 1) (omega arith) in
      seg-seg (2 * op_count d) (op_count d) lo (hi - lo) ws (omega (arith, a, b, offsets_rise i h))
      ∙ ap (seg lo (hi - lo)) r.tables.operations
      ∙ rw (a', b') (layer_inside (orders d) low_orders i (omega (arith, many)))

-- the operations at the places from lo on read, one after the other
pub read_none : (d : Drawing) (lo : ℕ) (ws : List ℕ) → ReadUpTo d lo lo ws ws
read_none d lo ws = record { long = refl; front = refl; ready = λ q g h. absurd (omega arith) }

-- what has read still runs
pub read_runs : (d : Drawing) (lo p : ℕ) (ws₀ ws : List ℕ) → Runs d ws₀ → ReadUpTo d lo p ws₀ ws → Runs d ws
read_runs d lo p ws₀ ws r u = runs_kept d ws₀ ws u.long (front_less (room_at d) ws₀ ws u.front (memory_at d) (omega arith)) r

-- and is ready to be stored
pub read_ready : (d : Drawing) (lo hi : ℕ) (ws₀ ws : List ℕ) → hi ≤ op_count d → ReadUpTo d lo hi ws₀ ws → (q : ℕ) → lo ≤ q → q < hi → Ready d (memory_of d ws) ws (operation_at d ws q)
read_ready d lo hi ws₀ ws low u q g h =
    rw (front_seg (room_at d) ws₀ ws u.front (memory_at d) (node_count d) (omega arith), front_at (room_at d) ws₀ ws u.front (2 * op_count d + q) (omega arith)) (u.ready q g h)

pub read_stored : (d : Drawing) (lo hi : ℕ) (ws₀ ws ws' : List ℕ) → lo ≤ hi → hi ≤ op_count d → ReadUpTo d lo hi ws₀ ws → StoredUpTo d lo hi ws ws' → StoredUpTo d lo hi ws₀ ws'
read_stored d lo hi ws₀ ws ws' order low u s =
    record {
      long = s.long ∙ u.long;
      front = s.front ∙ front_less (room_at d) ws₀ ws u.front (memory_at d) (omega arith);
      memory = s.memory ∙ rw (front_seg (room_at d) ws₀ ws u.front (memory_at d) (node_count d) (omega arith), front_seg (room_at d) ws₀ ws u.front (2 * op_count d + lo) (hi - lo) (omega arith));
    }

pub read_next : (d : Drawing) (ws₀ : List ℕ) → Runs d ws₀ → (lo p : ℕ) → p < op_count d → (ws ws' : List ℕ) → ReadUpTo d lo p ws₀ ws → Reads d (operation_at d ws p) ws ws' → ReadUpTo d lo (p + 1) ws₀ ws'
read_next d ws₀ r lo p h ws ws' u s =
    record {
      long = s.long ∙ u.long;
      front = s.front ∙ u.front;
      ready = λ q g l. go q g l (ℕ_discrete (operation_at d ws₀ q) (operation_at d ws p)) (ℕ_discrete q p);
    }
  where
    kept : (q : ℕ) → q < op_count d → operation_at d ws q ≡ operation_at d ws₀ q
    kept q l = front_at (room_at d) ws₀ ws u.front (2 * op_count d + q) (omega arith)

    memory : memory_of d ws ≡ memory_of d ws₀
    memory = front_seg (room_at d) ws₀ ws u.front (memory_at d) (node_count d) (omega arith)

    go : (q : ℕ) → lo ≤ q → q < p + 1 → Dec (operation_at d ws₀ q ≡ operation_at d ws p) → Dec (q ≡ p) → Ready d (memory_of d ws₀) ws' (operation_at d ws₀ q)
    go q g l (yes e) c = rw (e, ← memory) s.ready
    go q g l (no n) (yes e) = absurd (n (ap (operation_at d ws₀) e ∙ sym (kept p h)))
    go q g l (no n) (no m) = s.keeps (operation_at d ws₀ q) (operation_low d ws₀ r q (omega arith)) n ∙ u.ready q g (omega arith)

-- and store, one after the other: only memory has changed
pub record Storing (d : Drawing) (lo hi : ℕ) (ws₀ ws : List ℕ) (p : ℕ) : Type 0 where
  pub held : ws ≡ back (memory_at d) (node_count d) (memory_of d ws) ws₀
  pub long : length ws ≡ length ws₀
  pub rest : run_rest d (drop (p - lo) (seg (2 * op_count d + lo) (hi - lo) ws₀)) (memory_of d ws₀) (memory_of d ws) ≡ run_layer d (seg (2 * op_count d + lo) (hi - lo) ws₀) (memory_of d ws₀)

module _ (d : Drawing) (ws₀ : List ℕ) (r : Runs d ws₀) (lo hi : ℕ) (order : lo ≤ hi) (low : hi ≤ op_count d) where
  abbrev es : List ℕ
  es = seg (2 * op_count d + lo) (hi - lo) ws₀

  abbrev M₀ : List ℕ
  M₀ = memory_of d ws₀

  memory_fits : memory_at d + node_count d ≤ length ws₀
  memory_fits = omega (arith, r.long)

  es_long : length es ≡ hi - lo
  es_long = seg-length (2 * op_count d + lo) (hi - lo) ws₀ (omega (arith, r.long))

  pub storing_begin : Storing d lo hi ws₀ ws₀ lo
  unfolding run_layer
  storing_begin =
      let z : lo - lo ≡ 0 = omega arith in
      record {
        held = sym (rw (take-append-drop (node_count d) (drop (memory_at d) ws₀)) (take-append-drop (memory_at d) ws₀));
        long = refl;
        rest = rw z;
      }

  module _ (ws : List ℕ) (p : ℕ) (s : Storing d lo hi ws₀ ws p) where
    M-is : length (memory_of d ws) ≡ node_count d
    M-is = seg-length (memory_at d) (node_count d) ws (omega (arith, s.long, memory_fits))

    pub storing_front : take (memory_at d) ws ≡ take (memory_at d) ws₀
    storing_front = rw s.held (back_front (memory_at d) (node_count d) (memory_of d ws) ws₀ (omega (arith, memory_fits)) (memory_at d) (omega arith))

    module _ (reached : lo ≤ p) (more : p < hi) (ready : (q : ℕ) → lo ≤ q → q < hi → Ready d M₀ ws₀ (operation_at d ws₀ q)) where
      abbrev e : ℕ
      e = operation_at d ws₀ p

      same_e : operation_at d ws p ≡ e
      same_e = front_at (memory_at d) ws₀ ws storing_front (2 * op_count d + p) (omega arith)

      outputs_stand : outputs_in d ws e ≡ outputs_of d M₀ e
      outputs_stand =
          ap (λ (l : List ℕ). outputs_in d l e) s.held
          ∙ back-seg_after (memory_at d) (node_count d) (memory_of d ws) ws₀ memory_fits M-is (outputs_at d e) (at d.target_lengths e) (omega arith) (part_fits d r.accepted ws₀ r.long e)
          ∙ ready p reached more

      abbrev M' : List ℕ
      M' = store_all (targets_of d e) (outputs_of d M₀ e) (memory_of d ws)

      M'-long : length M' ≡ node_count d
      M'-long = store_length (targets_of d e) (outputs_of d M₀ e) (memory_of d ws) ∙ M-is

      next_es : drop (p - lo) es ≡ e ∷ drop (p + 1 - lo) es
      next_es =
          let a : p - lo + 1 ≡ p + 1 - lo = omega arith in
          let b : 2 * op_count d + lo + (p - lo) ≡ 2 * op_count d + p = omega arith in
          drop_more es (p - lo) (omega (arith, es_long)) ∙ rw (a, seg-at (2 * op_count d + lo) (hi - lo) ws₀ (p - lo) (omega arith), b)

      next_rest : run_rest d (drop (p + 1 - lo) es) M₀ M' ≡ run_layer d es M₀
      next_rest =
          sym (store_append (targets_of d e) (outputs_of d M₀ e) (concat (map (targets_of d) (drop (p + 1 - lo) es))) (concat (map (outputs_of d M₀) (drop (p + 1 - lo) es))) (memory_of d ws) (sym (outputs_long d ws₀ r e (operation_low d ws₀ r p (omega arith)) M₀)))
          ∙ ap (λ (l : List ℕ). run_rest d l M₀ (memory_of d ws)) (sym next_es)
          ∙ s.rest

      stored_memory : memory_of d (back (memory_at d) (node_count d) M' ws₀) ≡ M'
      stored_memory = back-seg (memory_at d) (node_count d) M' ws₀ memory_fits M'-long

      stored_once : Storing d lo hi ws₀ (back (memory_at d) (node_count d) M' ws₀) (p + 1)
      stored_once =
          record {
            held = ap (λ (l : List ℕ). back (memory_at d) (node_count d) l ws₀) (sym stored_memory);
            long = back-length (memory_at d) (node_count d) M' ws₀ memory_fits M'-long;
            rest = ap (run_rest d (drop (p + 1 - lo) es) M₀) stored_memory ∙ next_rest;
          }

      pub storing_next : (ws' : List ℕ) → ws' ≡ back (memory_at d) (node_count d) (store_all (targets_of d (operation_at d ws p)) (outputs_in d ws (operation_at d ws p)) (memory_of d ws)) ws → Storing d lo hi ws₀ ws' (p + 1)
      storing_next ws' q =
          rw
          (q
          ∙ ap (λ (f : ℕ). back (memory_at d) (node_count d) (store_all (targets_of d f) (outputs_in d ws f) (memory_of d ws)) ws) same_e
          ∙ ap (λ (l : List ℕ). back (memory_at d) (node_count d) (store_all (targets_of d e) l (memory_of d ws)) ws) outputs_stand
          ∙ ap (back (memory_at d) (node_count d) M') s.held
          ∙ back_over (memory_at d) (node_count d) (node_count d) (memory_of d ws) M' ws₀ (omega (arith, memory_fits)) M-is (omega arith))
          stored_once

    pub storing_end : p ≡ hi → StoredUpTo d lo hi ws₀ ws
    unfolding store_all
    storing_end q =
        record {
          long = s.long;
          front = storing_front;
          memory = rw (q, drop_of_length-le es {i = hi - lo} (omega (arith, es_long))) at s.rest;
        }

-- layer after layer
pub record RanUpTo (d : Drawing) (i : ℕ) (ws₀ ws : List ℕ) : Type 0 where
  pub long : length ws ≡ length ws₀
  pub front : take (memory_at d) ws ≡ take (memory_at d) ws₀
  pub rest : run d (drop i (layers (orders d))) (memory_of d ws) ≡ run d (layers (orders d)) (memory_of d ws₀)

module _ (d : Drawing) (ws₀ : List ℕ) (r : Runs d ws₀) where
  pub ran_begin : RanUpTo d 0 ws₀ ws₀
  ran_begin = record { long = refl; front = refl; rest = refl }

  next_layer : (i : ℕ) → i < op_count d → drop i (layers (orders d)) ≡ layer_of (orders d) i ∷ drop (i + 1) (layers (orders d))
  next_layer i h =
      drop-cons (layers (orders d)) i (layer_of (orders d) 0) (omega (arith, layers-length (orders d), many d ws₀ r))
      ∙ rw (layer-at (orders d) i (omega (arith, many d ws₀ r)), ← add-one i)

  module _ (ws : List ℕ) (i : ℕ) (u : RanUpTo d i ws₀ ws) where
    pub ran_runs : Runs d ws
    ran_runs = runs_kept d ws₀ ws u.long u.front r

    pub ran_next : (ws' : List ℕ) (lo hi : ℕ) → i < op_count d → lo ≡ get_or ws (3 * op_count d + i) 0 → hi ≡ get_or ws (3 * op_count d + i + 1) 0 → StoredUpTo d lo hi ws ws' → RanUpTo d (i + 1) ws₀ ws'
    unfolding run
    ran_next ws' lo hi h a b s =
        record {
          long = s.long ∙ u.long;
          front = s.front ∙ u.front;
          rest = rw (s.memory, layer_between d ws ran_runs i lo hi h a b) (rw (next_layer i h) at u.rest);
        }

    pub ran_end : op_count d ≤ i → Ran d (run d (layers (orders d)) (memory_of d ws₀)) ws₀ ws
    unfolding run
    ran_end h =
        record {
          long = u.long;
          front = u.front;
          holds = rw (drop_of_length-le (layers (orders d)) {i = i} (omega (arith, layers-length (orders d), many d ws₀ r))) at u.rest;
        }
