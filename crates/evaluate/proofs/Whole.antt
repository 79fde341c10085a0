-- What is read of an input is enough for the answer to all of it, and what is written is that answer.
use Rattle.std.specs.Prelude.{ℕ, ◌+◌, ◌≤◌, ◌<◌, List, [], ◌++◌, ◌≡◌, length, take, drop, Some, None, Result, Ok, Err, IfSome, OnOk}
use Rattle.std.proofs.Common.{arith, sym, ap, ◌∙◌, subst, append-nil, length-append, length-take-le}
use Rattle.std.proofs.Math.Decide.{dec_lt}
use Rattle.std.proofs.Math.Seq.{take-append_seam}
use Rattle.std.proofs.lemmas.List.Edits.{sets-eq}
use Rattle.std.specs.Io.KnownBytes.{Appends, Consumes, IsAtEnd}
use Rattle.std.specs.declared.option.Option.{Option}
use Rattle.rules.specs.Program.{output_of, most_written}
use Rattle.rules.proofs.Facts.Output.{output_over}
use Rattle.rules.proofs.Facts.OutputLong.{output_long}
use Rattle.answer.specs.Promise.{Answered}

-- the answer to a front that ends only where the input does, or is longer than a text may be
enough : (all front rest : List ℕ) → all ≡ front ++ rest → (length front < 65537 → rest ≡ []) → output_of front ≡ output_of all
enough all front rest e end = go (dec_lt (length front) 65537)
  where
    go : Dec (length front < 65537) → output_of front ≡ output_of all
    go (yes h) = ap output_of (sym (append-nil front) ∙ ap (λ (r : List ℕ). front ++ r) (sym (end h)) ∙ sym e)
    go (no h) =
        let long = ap length e ∙ length-append front rest in
        output_over front (omega arith) ∙ sym (output_over all (omega (arith, long)))

-- what stands at the front of the room is the answer
pub front : {t out out' : List ℕ} {r : ℕ} → Answered t out out' r → most_written ≤ length out → take r out' ≡ output_of t
front {t} {out} {out'} {r} a h =
    let p = a.written h in
    let next : r ≡ length (output_of t) = omega (arith, p.next) in
    rw (next, p.holds, sets-eq (output_of t) out 0 (omega (arith, output_long t))) (take-append_seam (output_of t) (drop (0 + length (output_of t)) out))

-- what was written, where all of the input is known
pub written : {A E : Type 0} (given left : Option (List ℕ)) (old new : Option (List ℕ)) (room out : List ℕ) (n : ℕ) (r : Result A E)
    → length room ≡ 65537 → n ≤ length room → Consumes given left (take n room) → (n < length room → IsAtEnd left)
    → out ≡ output_of (take n room) → OnOk r (Appends old new out) → OnOk r (IfSome given (λ text. Appends old new (output_of text)))
written given left old new room out n (Err e) long fits read end o p = tt
written None left old new room out n (Ok u) long fits read end o p = tt
written (Some xs) None old new room out n (Ok u) long fits read end o p = absurd read
written (Some xs) (Some ys) old new room out n (Ok u) long fits read end o p =
    let k = length-take-le n room fits in
    subst (Appends old new) (o ∙ enough xs (take n room) ys read (λ h. end (omega (arith, k, h)))) p
