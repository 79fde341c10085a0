-- `is_convex_subgraph`: the decision step by step, and its promise at each return.
use Rattle.std.specs.Prelude.{ℕ, ◌≤◌, ◌<◌, Bool, true, false, List, ◌++◌, ◌≡◌, refl, length, drop, replicate}
use Rattle.std.proofs.Common.{sym, ◌∙◌, inr}
use Rattle.rules.specs.declared.Refusal.{Refusal}
use Rattle.rules.specs.declared.Refusal.TheVariants.{ShortRoom}
use Rattle.rules.proofs.Facts.ArrowInputs.{convex_early, convex_short, convex_enough, inputs_early}
use Rattle.rules.specs.Drawing.{Drawing, Maps}
use Rattle.rules.specs.Inner.Decides.{Decides, Answers, GroupConvex}
use Rattle.rules.specs.Maps.{Convex, nodes_of, ops_of}
use Rattle.rules.specs.Refusals.{workspace_need, number, refusal_of}
use Rattle.rules.specs.Inner.Arrow.{arrow_inputs_refusal}
use Rattle.rules.proofs.Facts.Tests.{not_both}
use Rattle.rules.specs.Calls.{natural_refusal, convex_refusal}
use Rattle.rules.specs.Promises.{IsConvexSubgraph}
use Rattle.rules.proofs.Facts.Naturality.{natural_iff}
use Rattle.rules.proofs.Facts.Refusing.{number-some, faulty_number, handed}
use Rattle.rules.proofs.Facts.Verdicts.{answers_decided, answers_refused}
use Rattle.std.specs.Prelude.{Result, Ok, Err}
use Rattle.std.specs.Result.{IsErrAnd, is_err}
use Rattle.rules.specs.Maps.{Injective, Road}
use Rattle.std.specs.Prelude.{not}

module _ (d : Drawing) (w x : List ℕ) where
  -- an entry stands twice
  pub group_repeats : (m : List ℕ) (words : ℕ) (r : Bool) → words ≡ workspace_need d → r ≡ false → Decides (Injective w × Injective x) words m r → Decides (GroupConvex d w x) (workspace_need d) m false
  group_repeats m words r q e p = record { yes = λ t. not_both t; no = λ t h. p.no e (h.0, h.1); clear = rw q at p.clear }

  -- none does
  pub group_walked : (m l : List ℕ) (words : ℕ) (r s : Bool) → r ≡ true → Decides (Injective w × Injective x) words m r → Decides (Road d w x) (workspace_need d) l s
      → Decides (GroupConvex d w x) (workspace_need d) l (not s)
  group_walked m l words r true e p q = record { yes = λ t. not_both t; no = λ t h. h.2 (q.yes refl); clear = q.clear }
  group_walked m l words r false e p q = record { yes = λ t. ((p.yes e).0, (p.yes e).1, q.no refl); no = λ t. not_both (sym t); clear = q.clear }

-- what a test of a callee's answer tells
pub refused_some : {k : ℕ} (r : Result Unit Refusal) → refusal_of r ≡ k → is_err r ≡ true → ¬ (k ≡ 0)
refused_some (Ok tt) e q = not_both q
refused_some (Err why) e q = λ z. number-some why (e ∙ z)

pub refused_none : {k : ℕ} (r : Result Unit Refusal) → refusal_of r ≡ k → is_err r ≡ false → k ≡ 0
refused_none (Ok tt) e q = sym e
refused_none (Err why) e q = not_both (sym q)

module _ (c d : Drawing) (f : Maps) where
  -- the maps are not natural
  pub unnatural_no : ¬ (natural_refusal c d f ≡ 0) → {ws' : List ℕ} {words : ℕ} → ws' ≡ replicate words 0 → Decides (Convex c d f) words ws' false
  unnatural_no n z = record { yes = λ t. not_both t; no = λ t h. n ((natural_iff c d f).1 h.natural); clear = z }

  -- they are
  pub natural_group : natural_refusal c d f ≡ 0 → (l : List ℕ) (r : Bool) → Decides (GroupConvex d (nodes_of f) (ops_of f)) (workspace_need d) l r → Decides (Convex c d f) (workspace_need d) l r
  natural_group e l r p =
      record {
        yes = λ t. let h = p.yes t in record { natural = (natural_iff c d f).0 e; injective = record { nodes = h.0; ops = h.1 }; no_road = h.2 };
        no = λ t h. p.no t (h.injective.nodes, h.injective.ops, h.no_road);
        clear = p.clear;
      }

  module _ (ws : List ℕ) where
    promised : {ws' : List ℕ} {r : Result Bool Refusal} → Answers (Convex c d f) (convex_refusal c d f (length ws)) (workspace_need d) ws ws' r → IsConvexSubgraph c d f ws ws' r
    promised a = record { refusal = a.refusal; yes = a.yes; no = a.no; workspace = a.workspace }

    pub convex_faulty : (why : Refusal) → number why ≡ arrow_inputs_refusal c d f → IsConvexSubgraph c d f ws ws (Err why)
    convex_faulty why e =
        let q = convex_early c d f (length ws) (number why) e (number-some why) in
        promised (answers_refused (Convex c d f) (convex_refusal c d f (length ws)) (workspace_need d) ws why (sym q) (rw (q, e) (inputs_early c d f)))

    -- a refusal of the inputs that is handed on
    pub convex_handed : {A : Type 0} {a : Result A Refusal} {why : Refusal} {r : Result Bool Refusal} → refusal_of a ≡ arrow_inputs_refusal c d f → a ≡ Err why → IsErrAnd r (λ y. y ≡ why) → IsConvexSubgraph c d f ws ws r
    convex_handed {a = a} {why} e q h = rw (handed h) (convex_faulty why (faulty_number a why e q))

    pub convex_no_room : (words : ℕ) → words ≡ workspace_need d → arrow_inputs_refusal c d f ≡ 0 → length ws < words → IsConvexSubgraph c d f ws ws (Err ShortRoom)
    convex_no_room words n e h =
        let q = convex_short c d f (length ws) e (rw n at h) in
        promised (answers_refused (Convex c d f) (convex_refusal c d f (length ws)) (workspace_need d) ws ShortRoom (sym q) (rw q (inr refl)))

    pub convex_decided : (l : List ℕ) (r : Bool) (words : ℕ) → words ≡ workspace_need d → arrow_inputs_refusal c d f ≡ 0 → words ≤ length ws → Decides (Convex c d f) (workspace_need d) l r
        → IsConvexSubgraph c d f ws (l ++ drop words ws) (Ok r)
    convex_decided l r words n e h p = rw n (promised (answers_decided (Convex c d f) (convex_refusal c d f (length ws)) (workspace_need d) ws l r (convex_enough c d f (length ws) e (rw n at h)) p))
