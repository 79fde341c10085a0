-- The promise of a call that writes rows, at each of its returns.
use Rattle.std.specs.Prelude.{ℕ, ◌+◌, ◌-◌, ◌≤◌, ◌<◌, ◌^◌, true, false, List, [], ◌∷◌, ◌++◌, ◌≡◌, length, drop, replicate}
use Rattle.std.proofs.Common.{arith, append-nil, ap, ◌∙◌, drop_of_length-le, drop-drop}
use Rattle.std.proofs.Math.Path.{refl, sym}
use Rattle.std.proofs.Math.Seq.{drop-append-add}
use Rattle.rules.specs.Lists.{sum, row_lengths, row_entries}
use Rattle.rules.specs.declared.Refusal.{Refusal}
use Rattle.rules.specs.declared.Refusal.TheVariants.{ShortRoom}
use Rattle.rules.specs.Inner.Rooms.{rooms_short, rooms_refusal}
use Rattle.rules.specs.Drawing.{Drawing, Accepted, node_count}
use Rattle.rules.specs.Inner.Loops.{Listed}
use Rattle.rules.proofs.Facts.Incident.{sources_listed}
use Rattle.rules.specs.Refusals.{refusal_of, unless, short_room, workspace_need, within, bad_lengths, number, bad_value}
use Rattle.rules.specs.Inner.Words.{filled}
use Rattle.rules.specs.Promises.{WritesRows}
use Rattle.rules.specs.Inner.Rows.{PutRows}
use Rattle.rules.proofs.Facts.Rooms.{three_rooms}
use Rattle.rules.specs.Calls.{drawing_refusal, two_outputs_refusal}
use Rattle.rules.proofs.Facts.Rows.{put_front}
use Rattle.rules.proofs.Facts.Refusing.{first_behind, first-append, number-some, refused_keeps, early-left, drawing-early, faulty_number, handed}
use Rattle.std.specs.Prelude.{Result, Ok, Err}
use Rattle.std.specs.Result.{IsErrAnd}

-- words at the front that were used and are cleared
pub front_cleared : (k words : ℕ) (t ws : List ℕ) → length t ≡ k → k ≤ words → filled words 0 (t ++ drop k ws) ≡ filled words 0 ws
front_cleared k words t ws h l = ap (λ (r : List ℕ). replicate words 0 ++ r) gone
  where
    gone : drop words (t ++ drop k ws) ≡ drop words ws
    gone =
        let e : words ≡ length t + (words - k) = omega arith in
        let f : k + (words - k) ≡ words = omega arith in
        ap (λ (j : ℕ). drop j (t ++ drop k ws)) e ∙ drop-append-add t (drop k ws) (words - k) ∙ drop-drop (words - k) k ws ∙ rw f

-- all words cleared, of a part of them that was lent
pub all_cleared : (words : ℕ) (ws ws' : List ℕ) → length ws ≡ words → ws' ≡ filled (length ws) 0 ws → ws' ≡ replicate words 0
all_cleared words ws ws' h c = c ∙ rw (drop_of_length-le ws {i = length ws} (omega arith), h) (append-nil (replicate words 0))

-- what the tables of the adjacencies need, in W words
pub tables_need : (d : Drawing) (ws : List ℕ) → Accepted d → length ws ≡ workspace_need d
    → (Listed (node_count d) 0 d.source_lengths d.source_values × (sum d.target_lengths < 2 ^ 32)) × (node_count d + 1 + length d.source_values + (length d.target_lengths + 1) ≤ length ws)
tables_need d ws a h = ((sources_listed d 0 a (omega arith), omega (arith, a.targets.total, a.targets.room)), omega (arith, h, a.targets.count))

-- the rooms are looked at
module _ (rows : ℕ → List ℕ) (k need₁ room₁ need₂ room₂ words room : ℕ) (lens lens' vals vals' ws ws' : List ℕ) where
  pub rows_short : rooms_short need₁ room₁ need₂ room₂ words room ≡ true → WritesRows rows k (rooms_refusal need₁ room₁ need₂ room₂ words room) words lens lens vals vals ws ws (Err ShortRoom)
  unfolding rooms_refusal
  rows_short e = record { refusal = sym ((three_rooms need₁ room₁ need₂ room₂ words room).yes e); lengths = refl; values = refl; workspace = refl }

  pub rows_done : rooms_short need₁ room₁ need₂ room₂ words room ≡ false → PutRows rows k lens lens' vals vals' → ws' ≡ filled words 0 ws
      → WritesRows rows k (rooms_refusal need₁ room₁ need₂ room₂ words room) words lens lens' vals vals' ws ws' (Ok tt)
  unfolding rooms_refusal
  rows_done e p c =
      record {
        refusal = sym ((three_rooms need₁ room₁ need₂ room₂ words room).no e);
        lengths = p.lengths ∙ put_front (row_lengths rows k) lens;
        values = p.entries ∙ put_front (row_entries rows k) vals;
        workspace = c;
      }

-- the drawing is looked at before
module _ (d : Drawing) (rows : ℕ → List ℕ) (k need₁ room₁ need₂ room₂ room : ℕ) (lens vals ws : List ℕ) where
  abbrev checks : List ℕ
  checks = unless (within d) 1 ∷ bad_lengths d ∷ bad_value d ∷ []

  abbrev rooms : List ℕ
  rooms = short_room need₁ room₁ ∷ short_room need₂ room₂ ∷ short_room (workspace_need d) room ∷ []

  pub rows_faulty : (why : Refusal) → number why ≡ drawing_refusal d → WritesRows rows k (two_outputs_refusal d need₁ room₁ need₂ room₂ room) (workspace_need d) lens lens vals vals ws ws (Err why)
  unfolding drawing_refusal two_outputs_refusal
  rows_faulty why e =
      record {
        refusal = sym (first-append checks rooms (number why) e (number-some why));
        lengths = refused_keeps (number why) (row_lengths rows k) lens (number-some why);
        values = refused_keeps (number why) (row_entries rows k) vals (number-some why);
        workspace = early-left (number why) (workspace_need d) ws (rw e (drawing-early d)) (number-some why);
      }

  pub rows_fine : {lens' vals' ws' : List ℕ} {r : Result Unit Refusal} → drawing_refusal d ≡ 0 → WritesRows rows k (rooms_refusal need₁ room₁ need₂ room₂ (workspace_need d) room) (workspace_need d) lens lens' vals vals' ws ws' r
      → WritesRows rows k (two_outputs_refusal d need₁ room₁ need₂ room₂ room) (workspace_need d) lens lens' vals vals' ws ws' r
  unfolding drawing_refusal two_outputs_refusal rooms_refusal
  rows_fine e p = record { refusal = p.refusal ∙ sym (first_behind checks rooms e); lengths = p.lengths; values = p.values; workspace = p.workspace }

  -- with words and a need that are known to be these
  pub rows_sized : {lens' vals' ws' : List ℕ} {r : Result Unit Refusal} (words need : ℕ) → drawing_refusal d ≡ 0 → words ≡ workspace_need d → need ≡ need₂
      → WritesRows rows k (rooms_refusal need₁ room₁ need room₂ words room) words lens lens' vals vals' ws ws' r
      → WritesRows rows k (two_outputs_refusal d need₁ room₁ need₂ room₂ room) (workspace_need d) lens lens' vals vals' ws ws' r
  rows_sized words need e p q h = rows_fine e (rw (p, q) at h)

  -- a room is too short
  pub rows_refused : (words need : ℕ) → drawing_refusal d ≡ 0 → words ≡ workspace_need d → need ≡ need₂ → rooms_short need₁ room₁ need room₂ words room ≡ true
      → WritesRows rows k (two_outputs_refusal d need₁ room₁ need₂ room₂ room) (workspace_need d) lens lens vals vals ws ws (Err ShortRoom)
  rows_refused words need e p q f = rows_sized words need e p q (rows_short rows k need₁ room₁ need room₂ words room lens lens vals vals ws ws f)

-- a refusal of the drawing that is handed on
pub rows_handed : (d : Drawing) (need₁ room₁ need₂ room₂ room : ℕ) {A : Type 0} {rows : ℕ → List ℕ} {k : ℕ} {lens vals ws : List ℕ} {a : Result A Refusal} {why : Refusal} {r : Result Unit Refusal}
    → refusal_of a ≡ drawing_refusal d → a ≡ Err why → IsErrAnd r (λ y. y ≡ why)
    → WritesRows rows k (two_outputs_refusal d need₁ room₁ need₂ room₂ room) (workspace_need d) lens lens vals vals ws ws r
rows_handed d n₁ r₁ n₂ r₂ room {rows = rows} {k} {lens} {vals} {ws} {a} {why} {r} e q h =
    rw (handed h) (rows_faulty d rows k n₁ r₁ n₂ r₂ room lens vals ws why (faulty_number a why e q))
