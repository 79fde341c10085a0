-- DETERMINISM OF THE PROGRAM: two results that meet the promise of `answer` on the same text and room are equal, in all bytes and in their count.
use Rattle.std.specs.Prelude.{ℕ, ◌<◌, List, ◌≡◌, length}
use Rattle.std.proofs.Common.{arith, sym, ◌∙◌}
use Rattle.std.proofs.Math.Decide.{dec_lt}
use Rattle.rules.specs.Program.{most_written}
use Rattle.answer.specs.Promise.{Answered}

pub answered_determined : {t out out₁ out₂ : List ℕ} {r₁ r₂ : ℕ} → Answered t out out₁ r₁ → Answered t out out₂ r₂ → (out₁ ≡ out₂) × (r₁ ≡ r₂)
answered_determined {t} {out} {out₁} {out₂} {r₁} {r₂} p q = go (dec_lt (length out) most_written)
  where
    go : Dec (length out < most_written) → (out₁ ≡ out₂) × (r₁ ≡ r₂)
    go (yes h) = let a = p.kept h in let b = q.kept h in (a.0 ∙ sym b.0, a.1 ∙ sym b.1)
    go (no h) = let a = p.written (omega arith) in let b = q.written (omega arith) in (a.holds ∙ sym b.holds, a.next ∙ sym b.next)
