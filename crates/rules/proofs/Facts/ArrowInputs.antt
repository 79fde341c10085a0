-- 1 to 4 over two drawings and two maps: refused with none of them, all three are valid; and how this part stands in the calls' refusals.
use Prim.Native.Nat.{ℕ, zero, suc, ◌<◌, ◌≤◌}
use Rattle.std.proofs.Common.{arith, inl, ◌∙◌}
use Rattle.std.specs.Prelude.{Bool, ◌&&◌, ◌↔◌, ◌≡◌}
use Rattle.std.proofs.Math.Bool.{true}
use mathlib.Core.List.{List, [], ◌∷◌}
use Rattle.std.proofs.Math.Path.{refl, sym}
use Rattle.rules.specs.declared.Refusal.{Refusal}
use Rattle.rules.specs.Drawing.{Drawing, Maps, Accepted, AcceptedMaps}
use Rattle.rules.specs.Inner.Arrow.{arrow_inputs_refusal}
use Rattle.rules.specs.Refusals.{bad_lengths, unless, within, maps_within, bad_value, workspace_need, bad_entry, entries_below, first_of, short_room, lengths_fit, values_below, number, refusal_of}
use Rattle.rules.specs.Inner.Checks.{lists_refusal}
use Rattle.rules.specs.Calls.{maps_refusal, validate_refusal, convex_refusal, natural_refusal}
use Rattle.rules.proofs.Facts.Refusing.{Early, front_none, first-append, early-first, early-unless, first_behind, enough, short, number-some, faulty_number, handed}
use Rattle.rules.proofs.Facts.Tests.{first-none, both, both_hold, unless-none, none_first, none-unless}
use Rattle.rules.proofs.Facts.Accepts.{tests_accept, maps_iff, within_holds, lengths_hold, values_hold}
use Rattle.rules.proofs.Facts.Naturality.{natural_iff}
use Rattle.rules.specs.Maps.{Natural}
use Rattle.rules.specs.Promises.{Validate}
use Rattle.std.specs.Prelude.{Result, Err}
use Rattle.std.specs.Result.{IsErrAnd}
use Rattle.rules.specs.Inner.Arrow.{arrow_lists_refusal}
use Rattle.std.proofs.Math.Bool.{false}

module _ (c d : Drawing) (f : Maps) where
  abbrev all-within : Bool
  all-within = within c && within d && maps_within f

  abbrev of_d : List ℕ
  of_d = bad_lengths d ∷ bad_value d ∷ bad_entry f ∷ []

  abbrev checks : List ℕ
  checks = unless all-within 1 ∷ bad_lengths c ∷ bad_value c ∷ of_d

  -- at each return of the check of 2 to 4
  pub source_faulty : (why : Refusal) → number why ≡ lists_refusal c → number why ≡ arrow_lists_refusal c d f
  unfolding lists_refusal arrow_lists_refusal
  source_faulty why e = sym (first-append (bad_lengths c ∷ bad_value c ∷ []) of_d (number why) e (number-some why))

  pub target_faulty : (why : Refusal) → lists_refusal c ≡ 0 → number why ≡ lists_refusal d → number why ≡ arrow_lists_refusal c d f
  unfolding lists_refusal arrow_lists_refusal
  target_faulty why p e =
      sym (first_behind (bad_lengths c ∷ bad_value c ∷ []) of_d p ∙ first-append (bad_lengths d ∷ bad_value d ∷ []) (bad_entry f ∷ []) (number why) e (number-some why))

  pub entries_tested : (r : Bool) → lists_refusal c ≡ 0 → lists_refusal d ≡ 0 → r ≡ entries_below f → unless r 4 ≡ arrow_lists_refusal c d f
  unfolding lists_refusal arrow_lists_refusal
  entries_tested r p q e =
      sym (first_behind (bad_lengths c ∷ bad_value c ∷ []) of_d p ∙ first_behind (bad_lengths d ∷ bad_value d ∷ []) (bad_entry f ∷ []) q ∙ rw (← e) (alone r))
    where
      alone : (r : Bool) → first_of (unless r 4 ∷ []) ≡ unless r 4
      alone true = refl
      alone false = refl

  -- the target's lists are refused
  pub target_refused : (why : Refusal) → all-within ≡ true → lists_refusal c ≡ 0 → number why ≡ lists_refusal d → number why ≡ arrow_inputs_refusal c d f
  unfolding lists_refusal arrow_inputs_refusal
  target_refused why w p e =
      sym (rw w (first_behind (bad_lengths c ∷ bad_value c ∷ []) of_d p ∙ first-append (bad_lengths d ∷ bad_value d ∷ []) (bad_entry f ∷ []) (number why) e (number-some why)))

  -- refused with none of 1 to 4
  pub inputs_accepted : arrow_inputs_refusal c d f ≡ 0 → Accepted c × Accepted d × AcceptedMaps f
  unfolding arrow_inputs_refusal maps_refusal
  inputs_accepted e =
      let p1 = first-none (unless all-within 1) (bad_lengths c ∷ bad_value c ∷ of_d) e in
      let p2 = first-none (bad_lengths c) (bad_value c ∷ of_d) p1.1 in
      let p3 = first-none (bad_value c) of_d p2.1 in
      let p4 = first-none (bad_lengths d) (bad_value d ∷ bad_entry f ∷ []) p3.1 in
      let p5 = first-none (bad_value d) (bad_entry f ∷ []) p4.1 in
      let p6 = first-none (bad_entry f) [] p5.1 in
      let w = both (within c && within d) (maps_within f) (unless-none all-within 1 (omega arith) p1.0) in
      let v = both (within c) (within d) w.0 in (
        tests_accept c v.0 (unless-none (lengths_fit c) 2 (omega arith) p2.0) (unless-none (values_below c) 3 (omega arith) p3.0),
        tests_accept d v.1 (unless-none (lengths_fit d) 2 (omega arith) p4.0) (unless-none (values_below d) 3 (omega arith) p5.0),
        (maps_iff f).0 (none_first (unless (maps_within f) 1) (bad_entry f ∷ []) (none-unless (maps_within f) 1 w.1) p5.1),
      )

  -- and the other way round
  pub accepted_inputs : Accepted c → Accepted d → AcceptedMaps f → arrow_inputs_refusal c d f ≡ 0
  unfolding arrow_inputs_refusal maps_refusal
  accepted_inputs ac ad am =
      let m = first-none (unless (maps_within f) 1) (bad_entry f ∷ []) ((maps_iff f).1 am) in
      let w = both_hold (within c) (within d) (within_holds c ac) (within_holds d ad) in
      none_first (unless all-within 1) (bad_lengths c ∷ bad_value c ∷ of_d)
      (none-unless all-within 1 (both_hold (within c && within d) (maps_within f) w (unless-none (maps_within f) 1 (omega arith) m.0)))
      (none_first (bad_lengths c) (bad_value c ∷ of_d) (none-unless (lengths_fit c) 2 (lengths_hold c ac))
      (none_first (bad_value c) of_d (none-unless (values_below c) 3 (values_hold c ac))
      (none_first (bad_lengths d) (bad_value d ∷ bad_entry f ∷ []) (none-unless (lengths_fit d) 2 (lengths_hold d ad))
      (none_first (bad_value d) (bad_entry f ∷ []) (none-unless (values_below d) 3 (values_hold d ad)) m.1))))

  pub inputs_early : Early (arrow_inputs_refusal c d f)
  unfolding arrow_inputs_refusal
  inputs_early =
      early-first (unless all-within 1) (bad_lengths c ∷ bad_value c ∷ of_d) (early-unless all-within 1 refl)
      (early-first (bad_lengths c) (bad_value c ∷ of_d) (early-unless (lengths_fit c) 2 refl)
      (early-first (bad_value c) of_d (early-unless (values_below c) 3 refl)
      (early-first (bad_lengths d) (bad_value d ∷ bad_entry f ∷ []) (early-unless (lengths_fit d) 2 refl)
      (early-first (bad_value d) (bad_entry f ∷ []) (early-unless (values_below d) 3 refl)
      (early-first (bad_entry f) [] (early-unless (entries_below f) 4 refl) (inl refl))))))

  -- validation: one of 1 to 4, or 5 to 10
  pub validate_early : (k : ℕ) → k ≡ arrow_inputs_refusal c d f → ¬ (k ≡ 0) → validate_refusal c d f ≡ k
  unfolding arrow_inputs_refusal validate_refusal
  validate_early k e n = first-append checks (natural_refusal c d f ∷ []) k e n

  pub validate_behind : arrow_inputs_refusal c d f ≡ 0 → validate_refusal c d f ≡ natural_refusal c d f
  unfolding arrow_inputs_refusal validate_refusal
  validate_behind e = first_behind checks (natural_refusal c d f ∷ []) e ∙ alone (natural_refusal c d f)
    where
      alone : (k : ℕ) → first_of (k ∷ []) ≡ k
      alone zero = refl
      alone (suc k) = refl

  -- a refusal of the inputs that is handed on
  pub validate_handed : {A : Type 0} {a : Result A Refusal} {why : Refusal} {r : Result Unit Refusal} → refusal_of a ≡ arrow_inputs_refusal c d f → a ≡ Err why → IsErrAnd r (λ y. y ≡ why) → Validate c d f r
  validate_handed {a = a} {why} e q h = rw (handed h) (record { refusal = sym (validate_early (number why) (faulty_number a why e q) (number-some why)) })

  -- refused with none of 1 to 10: valid drawings and maps, and the maps are natural
  pub validate_iff : (validate_refusal c d f ≡ 0) ↔ (Accepted c × Accepted d × AcceptedMaps f × Natural c d f)
  unfolding arrow_inputs_refusal validate_refusal
  validate_iff = (
    λ e.
        let i = front_none checks (natural_refusal c d f ∷ []) e in
        let a = inputs_accepted i in
        (a.0, a.1, a.2, (natural_iff c d f).0 (sym (validate_behind i) ∙ e)),
    λ a. validate_behind (accepted_inputs a.0 a.1 a.2) ∙ (natural_iff c d f).1 a.3,
  )

  -- convexity: one of 1 to 4, or 11
  module _ (room : ℕ) where
    pub convex_early : (k : ℕ) → k ≡ arrow_inputs_refusal c d f → ¬ (k ≡ 0) → convex_refusal c d f room ≡ k
    unfolding arrow_inputs_refusal convex_refusal
    convex_early k e n = first-append checks (short_room (workspace_need d) room ∷ []) k e n

    pub convex_short : arrow_inputs_refusal c d f ≡ 0 → room < workspace_need d → convex_refusal c d f room ≡ 11
    unfolding arrow_inputs_refusal convex_refusal
    convex_short e h = first_behind checks (short_room (workspace_need d) room ∷ []) e ∙ rw (short (workspace_need d) room h)

    pub convex_enough : arrow_inputs_refusal c d f ≡ 0 → workspace_need d ≤ room → convex_refusal c d f room ≡ 0
    unfolding arrow_inputs_refusal convex_refusal
    convex_enough e h = first_behind checks (short_room (workspace_need d) room ∷ []) e ∙ rw (enough (workspace_need d) room h)
