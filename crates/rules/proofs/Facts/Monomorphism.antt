-- `is_monomorphism`: its promise at each return.
use Rattle.std.specs.Prelude.{ℕ, ◌≤◌, ◌<◌, Bool, ◌≡◌, refl, take, drop, leb}
use Rattle.std.proofs.Common.{arith, inl, sym, ◌∙◌}
use mathlib.Core.List.{List, [], ◌∷◌, ◌++◌}
use Rattle.std.proofs.Math.ListN.{length}
use Rattle.std.proofs.Math.Seq.{length-take-le}
use Rattle.rules.specs.declared.Refusal.{Refusal}
use Rattle.rules.specs.declared.Refusal.TheVariants.{ShortRoom}
use Rattle.rules.specs.Inner.Decides.{Decides, Answers}
use Rattle.rules.specs.Drawing.{Maps}
use Rattle.rules.specs.Calls.{monomorphism_refusal, maps_refusal}
use Rattle.rules.specs.Refusals.{unless, number, refusal_of, maps_need, maps_within, bad_entry, short_room, entries_below}
use Rattle.rules.specs.Maps.{Injective, nodes_of, ops_of}
use Rattle.rules.proofs.Facts.Refusing.{Early, early-first, first-append, early-unless, first_behind, short, number-some, enough, faulty_number, handed}
use Rattle.rules.specs.Promises.{IsMonomorphism}
use Rattle.rules.proofs.Facts.Verdicts.{answers_refused, answers_decided}
use Rattle.std.specs.Prelude.{Result, Ok, Err}
use Rattle.std.specs.Result.{IsErrAnd}
use Rattle.rules.proofs.Facts.Tests.{not_both}
use Rattle.std.proofs.lemmas.List.{length-replicate}
use Rattle.std.specs.Prelude.{true, false}

module _ (f : Maps) (ws : List ℕ) where
  abbrev checks : List ℕ
  checks = unless (maps_within f) 1 ∷ bad_entry f ∷ []

  abbrev refused : ℕ
  refused = monomorphism_refusal f (length ws)

  mono_early : Early refused
  unfolding monomorphism_refusal
  mono_early =
      early-first (unless (maps_within f) 1) (bad_entry f ∷ short_room (maps_need f) (length ws) ∷ []) (early-unless (maps_within f) 1 refl)
      (early-first (bad_entry f) (short_room (maps_need f) (length ws) ∷ []) (early-unless (entries_below f) 4 refl)
      (early-first (short_room (maps_need f) (length ws)) [] (early-unless (leb (maps_need f) (length ws)) 11 refl) (inl refl)))

  promised : {ws' : List ℕ} {r : Result Bool Refusal} → Answers (Injective (nodes_of f) × Injective (ops_of f)) refused (maps_need f) ws ws' r → IsMonomorphism f ws ws' r
  promised a =
      record {
        refusal = a.refusal;
        yes = λ q. record { nodes = (a.yes q).0; ops = (a.yes q).1 };
        no = λ q m. a.no q (m.nodes, m.ops);
        workspace = a.workspace;
      }

  pub mono_faulty : (why : Refusal) → number why ≡ maps_refusal f → IsMonomorphism f ws ws (Err why)
  unfolding maps_refusal monomorphism_refusal
  mono_faulty why e =
      promised (answers_refused (Injective (nodes_of f) × Injective (ops_of f)) refused (maps_need f) ws why (sym (first-append checks (short_room (maps_need f) (length ws) ∷ []) (number why) e (number-some why))) mono_early)

  -- a refusal of the maps that is handed on
  pub mono_handed : {A : Type 0} {a : Result A Refusal} {why : Refusal} {r : Result Bool Refusal} → refusal_of a ≡ maps_refusal f → a ≡ Err why → IsErrAnd r (λ y. y ≡ why) → IsMonomorphism f ws ws r
  mono_handed {a = a} {why} e q h = rw (handed h) (mono_faulty why (faulty_number a why e q))

  -- so many words are asked for
  module _ (words : ℕ) (q : words ≡ maps_need f) (e : maps_refusal f ≡ 0) where
    pub mono_short : length ws < words → IsMonomorphism f ws ws (Err ShortRoom)
    unfolding maps_refusal monomorphism_refusal
    mono_short h =
        promised (answers_refused (Injective (nodes_of f) × Injective (ops_of f)) refused (maps_need f) ws ShortRoom (sym (first_behind checks (short_room (maps_need f) (length ws) ∷ []) e ∙ rw (short (maps_need f) (length ws) (omega arith)))) mono_early)

    pub mono_decided : (l : List ℕ) (r : Bool) → words ≤ length ws → Decides (Injective (nodes_of f) × Injective (ops_of f)) (length (take words ws)) l r → IsMonomorphism f ws (l ++ drop words ws) (Ok r)
    unfolding maps_refusal monomorphism_refusal
    mono_decided l r h p =
        let k : length (take words ws) ≡ maps_need f = length-take-le words ws h ∙ q in
        rw q
        (promised
        (answers_decided (Injective (nodes_of f) × Injective (ops_of f)) refused (maps_need f) ws l r
        (first_behind checks (short_room (maps_need f) (length ws) ∷ []) e ∙ rw (enough (maps_need f) (length ws) (omega arith))) (rw k at p)))

-- w first; where an entry stands twice there, x is not looked at
module _ (w x seen : List ℕ) where
  pub both_first : (l : List ℕ) (r : Bool) → r ≡ false → Decides (Injective w) (length seen) l r → Decides (Injective w × Injective x) (length seen) l false
  both_first l r e p = record { yes = λ q. not_both q; no = λ q h. p.no e h.0; clear = p.clear }

  pub both_second : (m l : List ℕ) (r s : Bool) → r ≡ true → Decides (Injective w) (length seen) m r → Decides (Injective x) (length m) l s → Decides (Injective w × Injective x) (length seen) l s
  both_second m l r s e p q =
      record {
        yes = λ t. (p.yes e, q.yes t);
        no = λ t h. q.no t h.1;
        clear = q.clear ∙ rw (p.clear, length-replicate {A = ℕ} (length seen) 0);
      }
