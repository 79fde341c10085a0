-- The call `eval` in its parts, return by return.
use Prim.Native.Nat.{ℕ, zero, suc, ◌+◌, ◌*◌, ◌≤◌, ◌<◌}
use native.Mathlib.Omega.{arith}
use Rattle.std.specs.Prelude.{Bool, ◌&&◌, cond, ◌≡◌, get_or, take, replicate, leb}
use Rattle.std.proofs.Math.Bool.{true, false}
use mathlib.Core.List.Memᴰ
use mathlib.Core.List.{List, [], ◌∷◌, ◌++◌, map, append-nil}
use Rattle.std.proofs.Common.{inl, ap, ◌∙◌, take-append-drop}
use Rattle.std.proofs.Math.Path.{refl, sym}
use Rattle.std.proofs.Math.ListN.{length, drop, length-take, drop_of_length-le}
use Rattle.std.proofs.lemmas.List.{length-map, length-replicate}
use Rattle.rules.specs.Lists.{◌∈◌, all, range, has, seg, sum, at}
use Rattle.rules.specs.Drawing.{Drawing, Boundary, Accepted, op_count, node_count, AcceptedBoundary}
use Rattle.rules.specs.declared.Refusal.{Refusal}
use Rattle.rules.proofs.Facts.Segments.{back-length, back-seg-before, back-before, back_in, back-seg, seg-length}
use Rattle.rules.specs.Inner.Evaluating.{input_refusal, late_refusal, late_by, suits_by, Prepared, early_refusal, Attempted, early_checks, Evaluated}
use Rattle.rules.specs.Refusals.{workspace_need, early, first_of, unless, within, number, short_room, lengths_fit, boundary_within, written, values_within, values_below, refusal_of, bad_lengths, boundary_below, bad_value, bad_boundary}
use Rattle.rules.specs.Analysis.{marks, layers, orders}
use Rattle.rules.proofs.Facts.Tests.{∈-all, not_both, first-none, all-∈, unless-none, both}
use Rattle.rules.specs.Inner.Layering.{Layering}
use Rattle.rules.specs.Evaluation.{suits_at, unplaced_op, wrong_operation, evaluated, store_all, start_memory, run}
use Rattle.rules.proofs.Facts.Member.{∈-range, range-∈}
use Rattle.rules.proofs.Facts.Running.{sources_long, targets_long, runs_kept, back_front}
use Rattle.rules.specs.Calls.{eval_refusal}
use Rattle.rules.specs.Inner.Words.{back}
use Rattle.rules.specs.Promises.{Eval}
use Rattle.rules.specs.Inner.Running.{memory_at, Ran, memory_of}
use Rattle.rules.proofs.Facts.Refusing.{refused_keeps, Early, number-some, first_behind, early-first, first-append, early-unless, early-left}
use Rattle.rules.proofs.Facts.Accepts.{tests_accept, tests_bound}
use Rattle.rules.specs.Inner.Checks.{boundary_lists_refusal}
use Rattle.rules.proofs.Facts.Evaluating.{store_length}
use Rattle.std.specs.Prelude.{Result, Ok, Err, ltb, ◌||◌}
use Rattle.rules.specs.declared.Refusal.TheVariants.{ShortRoom}
use Rattle.rules.proofs.Facts.Rooms.{Rooms, one_room, more_rooms}
use borrow.Author.Tests.{leb-true}
use Rattle.rules.specs.Drawing.{most_items}

-- a test of every number below m
pub all-range : (p : ℕ → Bool) (m : ℕ) → ((k : ℕ) → k < m → p k ≡ true) → all p (range m) ≡ true
all-range p m h = ∈-all p (range m) (λ u i. h u (∈-range m u i))

pub all_fails : (p : ℕ → Bool) (m e : ℕ) → e < m → p e ≡ false → all p (range m) ≡ false
all_fails p m e h q = go (all p (range m)) refl
  where
    go : (b : Bool) → all p (range m) ≡ b → b ≡ false
    go false i = refl
    go true i = not_both (sym q ∙ all-∈ p i (range-∈ m e h))

all_same : (p q : ℕ → Bool) (l : List ℕ) → ((u : ℕ) → u ∈ l → p u ≡ q u) → all p l ≡ all q l
unfolding all
all_same p q [] h = refl
all_same p q (a ∷ l) h = rw (h a (Memᴰ.head refl), all_same p q l (λ u m. h u (Memᴰ.tail m)))

-- 13, then 14
module _ (marks x sl tl : List ℕ) where
  pub fault_unplaced : has marks 1 ≡ true → late_by marks x sl tl ≡ 13
  unfolding late_by
  fault_unplaced p = rw p

  pub fault_tested : (s : Bool) → has marks 1 ≡ false → s ≡ all (suits_by x sl tl) (range (length x)) → late_by marks x sl tl ≡ unless s 14
  unfolding late_by
  fault_tested s p q = rw (p, ← q) (alone s)
    where
      alone : (s : Bool) → first_of (0 ∷ unless s 14 ∷ []) ≡ unless s 14
      alone true = refl
      alone false = refl

module _ (d : Drawing) (a : Accepted d) where
  pub late_same : (list : List ℕ) → list ≡ marks d → late_by list d.ops d.source_lengths d.target_lengths ≡ late_refusal d
  unfolding late_by late_refusal
  late_same list e = rw (e, all_same (suits_by d.ops d.source_lengths d.target_lengths) (suits_at d) (range (op_count d)) same)
    where
      same : (u : ℕ) → u ∈ range (op_count d) → suits_by d.ops d.source_lengths d.target_lengths u ≡ suits_at d u
      same u m = rw (sources_long d a u, targets_long d a u)

  pub late_none : late_refusal d ≡ 0 → (e : ℕ) → e < op_count d → suits_at d e ≡ true
  unfolding late_refusal
  late_none q e h =
      let p = first-none (unplaced_op d) (wrong_operation d ∷ []) q in
      let s = first-none (wrong_operation d) [] p.1 in
      all-∈ (suits_at d) (unless-none (all (suits_at d) (range (op_count d))) 14 (omega arith) s.0) (range-∈ (op_count d) e h)

-- a late refusal is no early one
pub late_clears : (d : Drawing) → has early (late_refusal d) ≡ false
unfolding late_refusal
late_clears d = go (has (marks d) 1) (all (suits_at d) (range (op_count d)))
  where
    go : (a b : Bool) → has early (first_of (cond a 13 0 ∷ unless b 14 ∷ [])) ≡ false
    go true b = refl
    go false true = refl
    go false false = refl

-- the tables behind the layers, and an empty memory
module _ (d : Drawing) (ws : List ℕ) (a : Accepted d) (long : length ws ≡ workspace_need d) (l : Layering d ws ws) (suited : (e : ℕ) → e < op_count d → suits_at d e ≡ true) where
  module _ (y₁ y₂ y₃ : List ℕ) (l₁ : length y₁ ≡ op_count d) (l₂ : length y₂ ≡ op_count d) (l₃ : length y₃ ≡ node_count d) where
    abbrev w₁ : List ℕ
    w₁ = back (4 * op_count d + 1) (op_count d) y₁ ws

    abbrev w₂ : List ℕ
    w₂ = back (5 * op_count d + 1) (op_count d) y₂ w₁

    abbrev w₃ : List ℕ
    w₃ = back (6 * op_count d + 1) (node_count d) y₃ w₂

    f₁ : 4 * op_count d + 1 + op_count d ≤ length ws
    f₁ = omega arith

    n₁ : length w₁ ≡ length ws
    n₁ = back-length (4 * op_count d + 1) (op_count d) y₁ ws f₁ l₁

    f₂ : 5 * op_count d + 1 + op_count d ≤ length w₁
    f₂ = omega (arith, n₁)

    n₂ : length w₂ ≡ length w₁
    n₂ = back-length (5 * op_count d + 1) (op_count d) y₂ w₁ f₂ l₂

    f₃ : 6 * op_count d + 1 + node_count d ≤ length w₂
    f₃ = omega (arith, n₁, n₂)

    n₃ : length w₃ ≡ length w₂
    n₃ = back-length (6 * op_count d + 1) (node_count d) y₃ w₂ f₃ l₃

    kept : (b k : ℕ) → b + k ≤ 4 * op_count d + 1 → seg b k w₃ ≡ seg b k ws
    kept b k h =
        back-seg-before (6 * op_count d + 1) (node_count d) y₃ w₂ f₃ l₃ b k (omega arith)
        ∙ back-seg-before (5 * op_count d + 1) (op_count d) y₂ w₁ f₂ l₂ b k (omega arith)
        ∙ back-seg-before (4 * op_count d + 1) (op_count d) y₁ ws f₁ l₁ b k h

    pub prepared : ((e : ℕ) → e < op_count d → get_or y₁ e 0 ≡ sum (take e d.source_lengths)) → ((e : ℕ) → e < op_count d → get_or y₂ e 0 ≡ sum (take e d.target_lengths)) → Prepared d y₃ ws w₃
    prepared s t =
        record {
          long = n₃ ∙ n₂ ∙ n₁;
          runs = record {
            accepted = a;
            suited = suited;
            long = n₃ ∙ n₂ ∙ n₁ ∙ long;
            tables = record {
              operations = kept (2 * op_count d) (op_count d) (omega arith) ∙ l.operation_list;
              offsets = kept (3 * op_count d) (op_count d + 1) (omega arith) ∙ l.offset_list;
              sources = λ e h. back-before (6 * op_count d + 1) (node_count d) y₃ w₂ f₃ l₃ (4 * op_count d + 1 + e) (omega arith) ∙ back-before (5 * op_count d + 1) (op_count d) y₂ w₁ f₂ l₂ (4 * op_count d + 1 + e) (omega arith) ∙ back_in (4 * op_count d + 1) (op_count d) y₁ ws f₁ l₁ e h ∙ s e h;
              targets = λ e h. back-before (6 * op_count d + 1) (node_count d) y₃ w₂ f₃ l₃ (5 * op_count d + 1 + e) (omega arith) ∙ back_in (5 * op_count d + 1) (op_count d) y₂ w₁ f₂ l₂ e h ∙ t e h;
            };
          };
          holds = back-seg (6 * op_count d + 1) (node_count d) y₃ w₂ f₃ l₃;
        }

  -- the same, at the places that the code names
  pub prepared_at : (k₁ a₂ k₂ a₃ k₃ : ℕ) (y₁ y₂ y₃ : List ℕ) → k₁ ≡ op_count d → a₂ ≡ 5 * op_count d + 1 → k₂ ≡ op_count d → a₃ ≡ 6 * op_count d + 1 → k₃ ≡ node_count d
      → length y₁ ≡ length (seg (4 * op_count d + 1) k₁ ws) → length y₂ ≡ length (seg a₂ k₂ (back (4 * op_count d + 1) k₁ y₁ ws))
      → ((e : ℕ) → e < length d.source_lengths → get_or y₁ e 0 ≡ sum (take e d.source_lengths)) → ((e : ℕ) → e < length d.target_lengths → get_or y₂ e 0 ≡ sum (take e d.target_lengths))
      → y₃ ≡ replicate (length (seg a₃ k₃ (back a₂ k₂ y₂ (back (4 * op_count d + 1) k₁ y₁ ws)))) 0
      → Prepared d (replicate (node_count d) 0) ws (back a₃ k₃ y₃ (back a₂ k₂ y₂ (back (4 * op_count d + 1) k₁ y₁ ws)))
  prepared_at k₁ a₂ k₂ a₃ k₃ y₁ y₂ y₃ p₁ q₂ p₂ q₃ p₃ l₁ l₂ s t z =
      let l₁' : length y₁ ≡ op_count d = l₁ ∙ seg-length (4 * op_count d + 1) k₁ ws (omega arith) ∙ p₁ in
      let g₁ : length (back (4 * op_count d + 1) k₁ y₁ ws) ≡ length ws = back-length (4 * op_count d + 1) k₁ y₁ ws (omega arith) (omega arith) in
      let l₂' : length y₂ ≡ op_count d = l₂ ∙ seg-length a₂ k₂ (back (4 * op_count d + 1) k₁ y₁ ws) (omega arith) ∙ p₂ in
      let g₂ : length (back a₂ k₂ y₂ (back (4 * op_count d + 1) k₁ y₁ ws)) ≡ length ws = back-length a₂ k₂ y₂ (back (4 * op_count d + 1) k₁ y₁ ws) (omega arith) (omega arith) ∙ g₁ in
      let zeros : y₃ ≡ replicate (node_count d) 0 = z ∙ ap (λ n. replicate n 0) (seg-length a₃ k₃ (back a₂ k₂ y₂ (back (4 * op_count d + 1) k₁ y₁ ws)) (omega arith) ∙ p₃) in
      rw (p₁, q₂, p₂, q₃, p₃, zeros)
      (prepared y₁ y₂ (replicate (node_count d) 0) l₁' l₂' (length-replicate (node_count d) 0) (λ e h. s e (omega (arith, a.sources.count))) (λ e h. t e (omega (arith, a.targets.count))))

-- the input values are stored
pub loaded : (d : Drawing) (b : Boundary) (values ws ws₁ : List ℕ) → Prepared d (replicate (node_count d) 0) ws ws₁ → (k : ℕ) (y : List ℕ) → k ≡ node_count d
    → y ≡ store_all b.inputs values (seg (memory_at d) k ws₁) → Prepared d (start_memory d b values) ws (back (memory_at d) k y ws₁)
loaded d b values ws ws₁ p k y q e =
    rw q (
    record {
      long = back-length (memory_at d) (node_count d) y ws₁ fits y_long ∙ p.long;
      runs = runs_kept d ws₁ (back (memory_at d) (node_count d) y ws₁) (back-length (memory_at d) (node_count d) y ws₁ fits y_long) (back_front (memory_at d) (node_count d) y ws₁ (omega (arith, fits)) (memory_at d) (omega arith)) p.runs;
      holds = back-seg (memory_at d) (node_count d) y ws₁ fits y_long ∙ start;
    }
    )
  where
    start : y ≡ start_memory d b values
    start = e ∙ rw (q, p.holds)

    fits : memory_at d + node_count d ≤ length ws₁
    fits = omega (arith, p.runs.long)

    y_long : length y ≡ node_count d
    y_long = ap length start ∙ store_length b.inputs values (replicate (node_count d) 0) ∙ length-replicate (node_count d) 0

-- the layers have run, and the answer is read
pub computed : (d : Drawing) (b : Boundary) (values ws ws₁ ws₂ out' : List ℕ) → Prepared d (start_memory d b values) ws ws₁ → Ran d (run d (layers (orders d)) (memory_of d ws₁)) ws₁ ws₂
    → (k : ℕ) → k ≡ node_count d → out' ≡ map (at (seg (memory_at d) k ws₂)) b.outputs → out' ≡ evaluated d b values
unfolding evaluated
computed d b values ws ws₁ ws₂ out' p r k q e = e ∙ rw (q, r.holds, p.holds)

pub evaluated_long : (d : Drawing) (b : Boundary) (values : List ℕ) → length (evaluated d b values) ≡ length b.outputs
unfolding evaluated
evaluated_long d b values = length-map b.outputs (at (run d (layers (orders d)) (start_memory d b values)))

-- decided, and run where there is no refusal
module _ (d : Drawing) (b : Boundary) (values out ws ws₁ : List ℕ) (a : Accepted d) (l : Layering d ws ws₁) where
  pub layered_here : Layering d ws₁ ws₁
  layered_here = record { long = refl; order_list = l.order_list; mark_list = l.mark_list; operation_list = l.operation_list; offset_list = l.offset_list }

  marks_are : (k : ℕ) → k ≡ op_count d → seg (op_count d) k ws₁ ≡ marks d
  marks_are k e = rw e l.mark_list

  pub late_here : (k n : ℕ) → k ≡ op_count d → n ≡ late_by (seg (op_count d) k ws₁) d.ops d.source_lengths d.target_lengths → n ≡ late_refusal d
  late_here k n e q = q ∙ late_same d a (seg (op_count d) k ws₁) (marks_are k e)

  pub attempt_refused : (why : Refusal) → number why ≡ late_refusal d → Attempted d b values out out ws ws₁ (Err why)
  attempt_refused why e = record { refusal = e; output = refused_keeps (number why) (evaluated d b values) out (number-some why); long = l.long }

  pub attempt_run : (out' ws' : List ℕ) → late_refusal d ≡ 0 → length out ≡ length b.outputs → length ws' ≡ length ws₁ → out' ≡ evaluated d b values → Attempted d b values out out' ws ws' (Ok tt)
  attempt_run out' ws' e n k q =
      record {
        refusal = sym e;
        output = q ∙ sym (rw (drop_of_length-le out {i = length (evaluated d b values)} (omega (arith, evaluated_long d b values))) (append-nil (evaluated d b values)));
        long = k ∙ l.long;
      }

-- and cleared
pub evaluated-clear : (d : Drawing) (b : Boundary) (values out out' ws ws₁ ws' : List ℕ) (r : Result Unit Refusal) → length ws ≡ workspace_need d → Attempted d b values out out' ws ws₁ r → ws' ≡ replicate (length ws₁) 0
    → Evaluated d b values out out' ws' r
evaluated-clear d b values out out' ws ws₁ ws' r long t e =
    record {
      refusal = t.refusal;
      output = t.output;
      clear = e ∙ rw (t.long, long);
    }

-- the checks of what is lent
module _ (d : Drawing) (b : Boundary) (values : List ℕ) where
  abbrev pub limits : Bool
  limits = within d && boundary_within b && values_within values

  -- what has passed 1, 2, 3 and 12 is a valid drawing with a valid boundary
  module _ (e : limits ≡ true) (q : boundary_lists_refusal d b ≡ 0) where
    limits_hold : (within d ≡ true) × (boundary_within b ≡ true)
    limits_hold = both (within d) (boundary_within b) (both (within d && boundary_within b) (values_within values) e).0

    tests_hold : (lengths_fit d ≡ true) × (values_below d ≡ true) × (boundary_below (node_count d) b ≡ true)
    unfolding boundary_lists_refusal
    tests_hold =
        let p₁ = first-none (bad_lengths d) (bad_value d ∷ bad_boundary d b ∷ []) q in
        let p₂ = first-none (bad_value d) (bad_boundary d b ∷ []) p₁.1 in
        let p₃ = first-none (bad_boundary d b) [] p₂.1 in
        (unless-none (lengths_fit d) 2 (omega arith) p₁.0, unless-none (values_below d) 3 (omega arith) p₂.0, unless-none (boundary_below (node_count d) b) 12 (omega arith) p₃.0)

    pub checked_drawing : Accepted d
    checked_drawing = tests_accept d limits_hold.0 tests_hold.0 tests_hold.1

    pub checked_boundary : AcceptedBoundary (node_count d) b
    checked_boundary = tests_bound (node_count d) b limits_hold.1 tests_hold.2

-- the checks before
module _ (d : Drawing) (b : Boundary) (values : List ℕ) (lent words : ℕ) where
  abbrev rooms_asked : List ℕ
  rooms_asked = short_room (length b.outputs) lent ∷ short_room (workspace_need d) words ∷ []

  -- the test of the limits d b values, as the code joins it
  pub check_limits : (r t v : Bool) → r ≡ within d → t ≡ boundary_within b → r && t && leb (length values) most_items ≡ v → limits d b values ≡ v
  check_limits r t v p q e = rw (← p, ← q) e

  pub check_over : limits d b values ≡ false → 1 ≡ early_refusal d b values lent words
  unfolding early_refusal
  check_over e = rw e

  pub check_faulty : (why : Refusal) → limits d b values ≡ true → number why ≡ boundary_lists_refusal d b → number why ≡ early_refusal d b values lent words
  unfolding early_refusal boundary_lists_refusal
  check_faulty why e q = rw e (sym (first-append (bad_lengths d ∷ bad_value d ∷ bad_boundary d b ∷ []) rooms_asked (number why) q (number-some why)))

  pub check_rooms : (t : Bool) (need : ℕ) → need ≡ workspace_need d → limits d b values ≡ true → boundary_lists_refusal d b ≡ 0 → t ≡ leb (length b.outputs) lent && leb need words → unless t 11 ≡ early_refusal d b values lent words
  unfolding early_refusal boundary_lists_refusal
  check_rooms t need n e q h = let s = rw n at h in rw e (sym (first_behind (bad_lengths d ∷ bad_value d ∷ bad_boundary d b ∷ []) rooms_asked q ∙ rw s (both_rooms (leb (length b.outputs) lent) (leb (workspace_need d) words))))
    where
      both_rooms : (p q : Bool) → first_of (unless p 11 ∷ unless q 11 ∷ []) ≡ unless (p && q) 11
      both_rooms true true = refl
      both_rooms true false = refl
      both_rooms false q = refl

  -- what passes them is valid, and the rooms are enough
  module _ (none : early_refusal d b values lent words ≡ 0) where
    all_none : (limits d b values ≡ true) × (lengths_fit d ≡ true) × (values_below d ≡ true) × (boundary_below (node_count d) b ≡ true) × (length b.outputs ≤ lent) × (workspace_need d ≤ words)
    unfolding early_refusal
    all_none =
        let p₁ = first-none (unless (limits d b values) 1) (bad_lengths d ∷ bad_value d ∷ bad_boundary d b ∷ rooms_asked) none in
        let p₂ = first-none (bad_lengths d) (bad_value d ∷ bad_boundary d b ∷ rooms_asked) p₁.1 in
        let p₃ = first-none (bad_value d) (bad_boundary d b ∷ rooms_asked) p₂.1 in
        let p₄ = first-none (bad_boundary d b) rooms_asked p₃.1 in
        let p₅ = first-none (short_room (length b.outputs) lent) (short_room (workspace_need d) words ∷ []) p₄.1 in
        let p₆ = first-none (short_room (workspace_need d) words) [] p₅.1 in (
          unless-none (limits d b values) 1 (omega arith) p₁.0,
          unless-none (lengths_fit d) 2 (omega arith) p₂.0,
          unless-none (values_below d) 3 (omega arith) p₃.0,
          unless-none (boundary_below (node_count d) b) 12 (omega arith) p₄.0,
          leb-true (length b.outputs) lent (unless-none (leb (length b.outputs) lent) 11 (omega arith) p₅.0),
          leb-true (workspace_need d) words (unless-none (leb (workspace_need d) words) 11 (omega arith) p₆.0),
        )

    limits_held : (within d ≡ true) × (boundary_within b ≡ true)
    limits_held = both (within d) (boundary_within b) (both (within d && boundary_within b) (values_within values) all_none.0).0

    pub passed_drawing : Accepted d
    passed_drawing = tests_accept d limits_held.0 all_none.1 all_none.2

    pub passed_boundary : AcceptedBoundary (node_count d) b
    passed_boundary = tests_bound (node_count d) b limits_held.1 all_none.3

    pub passed_output : length b.outputs ≤ lent
    passed_output = all_none.4

    pub passed_words : workspace_need d ≤ words
    passed_words = all_none.5

-- the promise, at the call's returns
module _ (d : Drawing) (b : Boundary) (values out ws : List ℕ) where
  abbrev before : List ℕ
  before = early_checks d b values (length out) (length ws)

  abbrev lent_rooms : List ℕ
  lent_rooms = short_room (length b.outputs) (length out) ∷ short_room (workspace_need d) (length ws) ∷ []

  early-early : Early (early_refusal d b values (length out) (length ws))
  unfolding early_refusal
  early-early =
      early-first (unless (within d && boundary_within b && values_within values) 1) (bad_lengths d ∷ bad_value d ∷ bad_boundary d b ∷ lent_rooms) (early-unless (within d && boundary_within b && values_within values) 1 refl)
      (early-first (bad_lengths d) (bad_value d ∷ bad_boundary d b ∷ lent_rooms) (early-unless (lengths_fit d) 2 refl)
      (early-first (bad_value d) (bad_boundary d b ∷ lent_rooms) (early-unless (values_below d) 3 refl)
      (early-first (bad_boundary d b) lent_rooms (early-unless (boundary_below (node_count d) b) 12 refl)
      (early-first (short_room (length b.outputs) (length out)) (short_room (workspace_need d) (length ws) ∷ []) (early-unless (leb (length b.outputs) (length out)) 11 refl)
      (early-first (short_room (workspace_need d) (length ws)) [] (early-unless (leb (workspace_need d) (length ws)) 11 refl) (inl refl))))))

  pub eval_refused : (why : Refusal) → number why ≡ early_refusal d b values (length out) (length ws) → Eval d b values out out ws ws (Err why)
  unfolding eval_refusal early_refusal
  eval_refused why e =
      record {
        refusal = sym (first-append before (unplaced_op d ∷ wrong_operation d ∷ []) (number why) e (number-some why));
        output = refused_keeps (number why) (evaluated d b values) out (number-some why);
        workspace = early-left (number why) (workspace_need d) ws (rw e early-early) (number-some why);
      }

  abbrev inputs : List ℕ
  inputs = unless (limits d b values) 1 ∷ bad_lengths d ∷ bad_value d ∷ bad_boundary d b ∷ []

  -- what is lent is refused
  pub eval_faulty : (why : Refusal) → number why ≡ input_refusal d b values → Eval d b values out out ws ws (Err why)
  unfolding input_refusal early_refusal
  eval_faulty why e = eval_refused why (sym (first-append inputs lent_rooms (number why) e (number-some why)))

  -- the two rooms are looked at
  rooms : Rooms lent_rooms (ltb (length out) (length b.outputs) || ltb (length ws) (workspace_need d))
  rooms = more_rooms (workspace_need d) (length ws) (one_room (length b.outputs) (length out))

  module _ (fine : input_refusal d b values ≡ 0) where
    pub eval_short : ltb (length out) (length b.outputs) || ltb (length ws) (workspace_need d) ≡ true → Eval d b values out out ws ws (Err ShortRoom)
    unfolding input_refusal early_refusal
    eval_short h = eval_refused ShortRoom (sym (first_behind inputs lent_rooms fine ∙ rooms.yes h))

    pub early_none : ltb (length out) (length b.outputs) || ltb (length ws) (workspace_need d) ≡ false → early_refusal d b values (length out) (length ws) ≡ 0
    unfolding input_refusal early_refusal
    early_none h = first_behind inputs lent_rooms fine ∙ rooms.no h

  pub eval_done : (out₁ ws₁ : List ℕ) (r : Result Unit Refusal) (words : ℕ) → words ≡ workspace_need d → early_refusal d b values (length out) (length ws) ≡ 0
      → Evaluated d b values (take (length b.outputs) out) out₁ ws₁ r
      → Eval d b values out (out₁ ++ drop (length b.outputs) out) ws (ws₁ ++ drop words ws) r
  unfolding eval_refusal early_refusal late_refusal
  eval_done out₁ ws₁ r words n e p =
      record {
        refusal = p.refusal ∙ sym (first_behind before (unplaced_op d ∷ wrong_operation d ∷ []) e);
        output = kept (refusal_of r) p.output;
        workspace = rw (n, p.clear, p.refusal, late_clears d);
      }
    where
      kept : (k : ℕ) → out₁ ≡ written k (evaluated d b values) (take (length b.outputs) out) → out₁ ++ drop (length b.outputs) out ≡ written k (evaluated d b values) out
      kept zero q = rw (q, evaluated_long d b values, drop_of_length-le (take (length b.outputs) out) {i = length b.outputs} (simp length-take (omega arith)), append-nil (evaluated d b values))
      kept (suc k) q =
          let n : ¬ (suc k ≡ 0) = λ e. omega arith in
          rw (q ∙ sym (refused_keeps (suc k) (evaluated d b values) (take (length b.outputs) out) n)) (take-append-drop (length b.outputs) out ∙ refused_keeps (suc k) (evaluated d b values) out n)
