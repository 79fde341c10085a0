-- One store behind the other: what is still to be written decides.
use Rattle.std.specs.Prelude.{ℕ, ◌+◌, ◌-◌, ◌≤◌, Bool, true, false, cond, eqb, List, [], ◌∷◌, ◌++◌, ◌≡◌, refl, length, take, drop}
use Rattle.std.proofs.Common.{append_assoc, sym, ◌∙◌, arith, drop-drop, length-append}
use Rattle.std.specs.List.{count_by}
use Rattle.std.proofs.lemmas.List.Recursion.{is_count_by}
use Rattle.std.proofs.lemmas.List.Edits.{sets, sets-eq}
use Rattle.std.proofs.Math.Seq.{length-sets}
use borrow.Rule.Slice.PartMut.{put_mid}
use Rattle.rules.specs.Lists.{those}
use Rattle.rules.specs.Program.{operations_header, unplaced_count, lines}
use Rattle.text.specs.declared.writer.Writer.{Writer}
use Rattle.text.specs.Writing.{HasRoom, Put, Wrote, operations}
use Rattle.text.proofs.Facts.Sets.{sets_append}
use Rattle.std.specs.Prelude.{set}

-- bytes copied into a part, as it comes back from the call
pub put_part : (bs : List ℕ) (at : ℕ) (out : List ℕ) → at + length bs ≤ length out → put_mid at (at + length bs - at) out bs ≡ sets out at bs
put_part bs at out h =
    let k : at + length bs - at ≡ length bs = omega arith in
    sym (sets-eq bs out at h ∙ rw (k, drop-drop (length bs) at out) (append_assoc (take at out) bs (drop (at + length bs) out)))

pub put_one : (b at : ℕ) (out : List ℕ) → Put (b ∷ []) at out (set out at b) (at + 1)
put_one b at out = record { holds = refl; next = omega arith }

pub put_long : {xs : List ℕ} {at p : ℕ} {out mid : List ℕ} → Put xs at out mid p → length mid ≡ length out
put_long {xs} {at} {out = out} f = rw f.holds (length-sets out at xs)

pub put_then : {xs ys : List ℕ} {at p r : ℕ} {out mid out' : List ℕ} → Put xs at out mid p → Put ys p mid out' r → Put (xs ++ ys) at out out' r
put_then {xs} {ys} {at} {out = out} f g =
    record {
      holds = g.holds ∙ rw (f.holds, f.next, sets_append xs ys out at);
      next = simp length-append (omega (arith, f.next, g.next));
    }

-- From `out` at p on, `rest` gives what `whole` gives from `out₀` at `at` on, and there is room for it.
pub record Rest (at : ℕ) (out₀ whole : List ℕ) (p : ℕ) (out rest : List ℕ) : Type 0 where
  pub room : p + length rest ≤ length out
  pub long : length out ≡ length out₀
  pub place : p + length rest ≡ at + length whole
  pub same : sets out p rest ≡ sets out₀ at whole

pub rest_start : (at : ℕ) (out whole : List ℕ) → at + length whole ≤ length out → Rest at out whole at out whole
rest_start at out whole h = record { room = h; long = refl; place = refl; same = refl }

module _ {at : ℕ} {out₀ whole : List ℕ} {p : ℕ} {out : List ℕ} where
  -- the room for the next store
  pub rest_room : (bs rest : List ℕ) → Rest at out₀ whole p out (bs ++ rest) → p + length bs ≤ length out
  rest_room bs rest r = omega (arith, r.room, length-append bs rest)

  -- after it
  pub rest_more : {bs rest : List ℕ} {q : ℕ} {mid : List ℕ} → Rest at out₀ whole p out (bs ++ rest) → Put bs p out mid q → Rest at out₀ whole q mid rest
  rest_more {bs} {rest} r f =
      record {
        room = omega (arith, r.room, f.next, put_long f, length-append bs rest);
        long = put_long f ∙ r.long;
        place = omega (arith, r.place, f.next, length-append bs rest);
        same = rw (f.holds, f.next, ← sets_append bs rest out p) r.same;
      }

  -- after the last
  pub rest_last : {bs : List ℕ} {q : ℕ} {mid : List ℕ} → Rest at out₀ whole p out bs → Put bs p out mid q → Put whole at out₀ mid q
  rest_last r f = record { holds = f.holds ∙ r.same; next = omega (arith, r.place, f.next) }

  pub rest_none : Rest at out₀ whole p out [] → Put whole at out₀ out p
  rest_none r = record { holds = r.same; next = omega (arith, r.place) }

-- The same of a writer.
pub wrote_then : {xs ys : List ℕ} {a b c : Writer} → Wrote xs a b → Wrote ys b c → Wrote (xs ++ ys) a c
wrote_then f g = record { puts = put_then f.puts g.puts; long = g.long ∙ f.long; same_buffer = g.same_buffer ∙ f.same_buffer }

pub record Left (start : Writer) (whole : List ℕ) (w : Writer) (rest : List ℕ) : Type 0 where
  pub left : Rest start.at start.out.now whole w.at w.out.now rest
  pub same_buffer : w.out.ghost_name ≡ start.out.ghost_name

module _ {start : Writer} {whole : List ℕ} {w : Writer} where
  pub left_room : (bs rest : List ℕ) → Left start whole w (bs ++ rest) → HasRoom bs w
  left_room bs rest r = rest_room bs rest r.left

  pub left_more : {bs rest : List ℕ} {v : Writer} → Left start whole w (bs ++ rest) → Wrote bs w v → Left start whole v rest
  left_more r f = record { left = rest_more r.left f.puts; same_buffer = f.same_buffer ∙ r.same_buffer }

  pub left_last : {bs : List ℕ} {v : Writer} → Left start whole w bs → Wrote bs w v → Wrote whole start v
  left_last r f = record { puts = rest_last r.left f.puts; long = f.long ∙ r.left.long; same_buffer = f.same_buffer ∙ r.same_buffer }

  pub left_none : Left start whole w [] → Wrote whole start w
  left_none r = record { puts = rest_none r.left; long = r.left.long; same_buffer = r.same_buffer }

-- the unplaced, as std counts
pub unplaced_is : (ms : List ℕ) → count_by (λ k. eqb k 1) ms ≡ unplaced_count ms
unfolding those
unplaced_is ms = sym (is_count_by (λ l. length (those (λ k. eqb k 1) l)) (λ k. eqb k 1) refl more ms)
  where
    more : (k : ℕ) (l : List ℕ) → length (those (λ m. eqb m 1) (k ∷ l)) ≡ cond (eqb k 1) (1 + length (those (λ m. eqb m 1) l)) (length (those (λ m. eqb m 1) l))
    more k l = go (eqb k 1)
      where
        go : (b : Bool) → length (cond b (k ∷ those (λ m. eqb m 1) l) (those (λ m. eqb m 1) l)) ≡ cond b (1 + length (those (λ m. eqb m 1) l)) (length (those (λ m. eqb m 1) l))
        go true = omega arith
        go false = refl

-- the operations' header and lines, the unplaced being counted
pub operations_start : (at : ℕ) (out orders marks : List ℕ) (unplaced : ℕ) → unplaced ≡ unplaced_count marks → at + length (operations orders marks) ≤ length out
    → Rest at out (operations orders marks) at out (operations_header (length orders) unplaced ++ lines 0 orders marks)
unfolding operations
operations_start at out orders marks unplaced e h = rw e (rest_start at out (operations orders marks) h)

pub operations_left : (w : Writer) (orders marks : List ℕ) (unplaced : ℕ) → unplaced ≡ unplaced_count marks → HasRoom (operations orders marks) w
    → Left w (operations orders marks) w (operations_header (length orders) unplaced ++ lines 0 orders marks)
operations_left w orders marks unplaced e h = record { left = operations_start w.at w.out.now orders marks unplaced e h; same_buffer = refl }
