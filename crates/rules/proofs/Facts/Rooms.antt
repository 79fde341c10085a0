-- Several rooms tested together by |, and a list of refusals whose front is the check of a drawing.
use Rattle.std.specs.Prelude.{ℕ, ◌+◌, ◌≤◌, Bool, true, false, ◌||◌, List, [], ◌∷◌, ◌++◌, ◌≡◌, refl, ltb}
use Rattle.std.proofs.Math.Path.{sym}
use Rattle.std.proofs.Common.{◌∙◌, arith, ltb-true, ltb-false}
use Rattle.rules.specs.declared.Refusal.{Refusal}
use Rattle.rules.specs.Refusals.{first_of, short_room, unless, number, within, bad_lengths, bad_value, workspace_need}
use Rattle.rules.specs.Drawing.{Drawing, op_count}
use Rattle.rules.specs.Inner.Rooms.{rooms_short}
use Rattle.rules.proofs.Facts.Refusing.{first-append, short, first_behind, enough, number-some}
use Rattle.rules.specs.Calls.{drawing_refusal, acyclic_refusal, two_outputs_refusal, layered_refusal}

-- l: what the rooms are refused with; short: whether one of them is too short
pub record Rooms (l : List ℕ) (short : Bool) : Type 0 where
  pub yes : short ≡ true → first_of l ≡ 11
  pub no : short ≡ false → first_of l ≡ 0

pub one_room : (need room : ℕ) → Rooms (short_room need room ∷ []) (ltb room need)
one_room need room =
    record {
      yes = λ e. rw (short need room (ltb-true room need e));
      no = λ e. rw (enough need room (ltb-false room need e));
    }

pub more_rooms : {l : List ℕ} {b : Bool} (need room : ℕ) → Rooms l b → Rooms (l ++ (short_room need room ∷ [])) (b || ltb room need)
more_rooms {l} {b} need room r = go b refl
  where
    o : Rooms (short_room need room ∷ []) (ltb room need)
    o = one_room need room

    go : (k : Bool) → b ≡ k → Rooms (l ++ (short_room need room ∷ [])) (k || ltb room need)
    go true q =
        record {
          yes = λ e. first-append l (short_room need room ∷ []) 11 (sym (r.yes q)) (λ z. omega arith);
          no = λ e. absurd (let z : ◌≡◌ {A = ℕ} 0 1 = cc in omega arith);
        }
    go false q =
        record {
          yes = λ e. first_behind l (short_room need room ∷ []) (r.no q) ∙ o.yes e;
          no = λ e. first_behind l (short_room need room ∷ []) (r.no q) ∙ o.no e;
        }

-- none of two is too short
pub or-none : (a b : Bool) → (a || b) ≡ false → (a ≡ false) × (b ≡ false)
or-none true b e = absurd (let z : ◌≡◌ {A = ℕ} 0 1 = cc in omega arith)
or-none false b e = (refl, e)

-- none of three: each is as long as needed
pub rooms_three : {need₁ room₁ need₂ room₂ words room : ℕ} → rooms_short need₁ room₁ need₂ room₂ words room ≡ false → (need₁ ≤ room₁) × (need₂ ≤ room₂) × (words ≤ room)
rooms_three {need₁} {room₁} {need₂} {room₂} {words} {room} e =
    let p = or-none (ltb room₁ need₁ || ltb room₂ need₂) (ltb room words) e in
    let q = or-none (ltb room₁ need₁) (ltb room₂ need₂) p.0 in
    (ltb-false _ _ q.0, ltb-false _ _ q.1, ltb-false _ _ p.1)

-- and what they are refused with
pub three_rooms : (need₁ room₁ need₂ room₂ words room : ℕ)
    → Rooms (short_room need₁ room₁ ∷ short_room need₂ room₂ ∷ short_room words room ∷ []) (rooms_short need₁ room₁ need₂ room₂ words room)
three_rooms need₁ room₁ need₂ room₂ words room = more_rooms words room (more_rooms need₂ room₂ (one_room need₁ room₁))

-- the refusal of a drawing, and what stands behind it
module _ (d : Drawing) (rest : List ℕ) where
  abbrev behind : List ℕ
  behind = (unless (within d) 1 ∷ bad_lengths d ∷ bad_value d ∷ []) ++ rest

  pub behind_faulty : (why : Refusal) → number why ≡ drawing_refusal d → number why ≡ first_of behind
  unfolding drawing_refusal
  behind_faulty why e = sym (first-append (unless (within d) 1 ∷ bad_lengths d ∷ bad_value d ∷ []) rest (number why) e (number-some why))

  pub behind_fine : drawing_refusal d ≡ 0 → first_of behind ≡ first_of rest
  unfolding drawing_refusal
  behind_fine e = first_behind (unless (within d) 1 ∷ bad_lengths d ∷ bad_value d ∷ []) rest e

-- a valid drawing and enough room: the calls are not refused
module _ (d : Drawing) (valid : drawing_refusal d ≡ 0) where
  pub acyclic_enough : (room : ℕ) → workspace_need d ≤ room → acyclic_refusal d room ≡ 0
  unfolding acyclic_refusal
  acyclic_enough room h = behind_fine d (short_room (workspace_need d) room ∷ []) valid ∙ rw (enough (workspace_need d) room h)

  pub two_enough : (need₁ room₁ need₂ room₂ room : ℕ) → need₁ ≤ room₁ → need₂ ≤ room₂ → workspace_need d ≤ room → two_outputs_refusal d need₁ room₁ need₂ room₂ room ≡ 0
  unfolding two_outputs_refusal
  two_enough need₁ room₁ need₂ room₂ room h₁ h₂ h =
      behind_fine d (short_room need₁ room₁ ∷ short_room need₂ room₂ ∷ short_room (workspace_need d) room ∷ []) valid
      ∙ rw (enough need₁ room₁ h₁, enough need₂ room₂ h₂, enough (workspace_need d) room h)

  pub layered_enough : (es offs ms room : ℕ) → op_count d ≤ es → op_count d + 1 ≤ offs → op_count d ≤ ms → workspace_need d ≤ room → layered_refusal d es offs ms room ≡ 0
  unfolding layered_refusal
  layered_enough es offs ms room h₁ h₂ h₃ h =
      behind_fine d (short_room (op_count d) es ∷ short_room (op_count d + 1) offs ∷ short_room (op_count d) ms ∷ short_room (workspace_need d) room ∷ []) valid
      ∙ rw (enough (op_count d) es h₁, enough (op_count d + 1) offs h₂, enough (op_count d) ms h₃, enough (workspace_need d) room h)
