-- Numbers that stand section behind section: section k as a part, and that what was read comes apart into its sections again.
use Rattle.std.specs.Prelude.{ℕ, zero, suc, ◌+◌, ◌-◌, ◌≤◌, ◌<◌, List, [], ◌∷◌, ◌++◌, ◌≡◌, refl, Result, Ok, length, get_or, take, drop}
use Rattle.std.proofs.Common.{append_assoc, sym, ap, ◌∙◌, arith, length-append, drop-drop}
use Rattle.std.specs.List.{sum as list_sum}
use Rattle.std.proofs.lemmas.List.Recursion.{is_sum_by}
use Rattle.std.proofs.lemmas.List.Edits.{sets, sets-eq}
use Rattle.std.proofs.Math.Seq.{length-sets, take-append_seam, drop-append_seam}
use Rattle.rules.specs.Lists.{sum, concat}
use Rattle.rules.specs.Text.{Sections, whole, broken, whole_text, limits}
use Rattle.rules.proofs.Facts.Placing.{sum-take, sum-take_le, sum-all}
use Rattle.rules.proofs.Facts.TextSections.{Fit, whole_fits}
use Rattle.rules.specs.declared.Refusal.{Refusal}
use Rattle.text.specs.Reading.{lengths, finished, numbers_of, text_answer, ReadText, sections_of, most_numbers}
use Rattle.text.proofs.Facts.Sets.{sets_all}
use Rattle.text.proofs.Facts.Sections.{limits-sum}

-- the sum as std has it
pub sum_is : (cs : List ℕ) → list_sum cs ≡ sum cs
sum_is cs = sym (is_sum_by sum (λ c. c) refl (λ _ _. refl) cs)

-- the sections before section k end within the numbers, and so does section k
pub sum_before : (cs : List ℕ) (k : ℕ) → k ≤ length cs → sum (take k cs) ≤ sum cs
sum_before cs k h = omega (arith, sum-take_le cs k (length cs) h, sum-all cs)

pub section_inside : (cs : List ℕ) (k : ℕ) → k < length cs → sum (take k cs) + get_or cs k 0 ≤ sum cs
section_inside cs k h = omega (arith, sum-take cs k, sum-take_le cs (k + 1) (length cs) (omega arith), sum-all cs)

section-at : (cs ns : List ℕ) (k : ℕ) → k < length cs → get_or (sections_of cs ns) k [] ≡ take (get_or cs k 0) (drop (sum (take k cs)) ns)
unfolding sections_of
section-at [] ns k h = absurd (omega arith)
section-at (c ∷ cs) ns zero h = refl
section-at (c ∷ cs) ns (suc k) h = section-at cs (drop c ns) k (omega arith) ∙ rw (drop-drop (sum (take k cs)) c ns)

-- the same, of the part as code lends it
pub part_is : (cs ns : List ℕ) (k start end : ℕ) → k < length cs → start ≡ sum (take k cs) → end ≡ start + get_or cs k 0 → take (end - start) (drop start ns) ≡ get_or (sections_of cs ns) k []
part_is cs ns k start end h s e =
    let z : end - start ≡ get_or cs k 0 = omega arith in
    rw (z, s) (sym (section-at cs ns k h))

-- sections, their counts and their numbers
pub sections_again : (ls : List (List ℕ)) (rest : List ℕ) → sections_of (lengths ls) (concat ls ++ rest) ≡ ls
unfolding sections_of
sections_again [] rest = refl
sections_again (ns ∷ ls) rest = rw (append_assoc ns (concat ls) rest, take-append_seam ns (concat ls ++ rest), drop-append_seam ns (concat ls ++ rest), sections_again ls rest)

lengths-sum : (ls : List (List ℕ)) → sum (lengths ls) ≡ length (concat ls)
lengths-sum [] = refl
lengths-sum (ns ∷ ls) = simp length-append (omega (arith, lengths-sum ls))

lengths-length : (ls : List (List ℕ)) → length (lengths ls) ≡ length ls
lengths-length [] = refl
lengths-length (ns ∷ ls) = ap suc (lengths-length ls)

-- A WHOLE TEXT, AS IT STANDS IN THE LENT LISTS
pub record Held (t counts numbers : List ℕ) : Type 0 where
  pub same : whole_text t ≡ whole (sections_of counts numbers)
  pub fit : Fit limits (sections_of counts numbers)
  pub nine : length counts ≡ 9
  pub inside : sum counts ≤ length numbers
  pub few : sum counts ≤ most_numbers

module _ (t cs cs' ns ns' : List ℕ) (hc : length cs ≡ 9) (hn : most_numbers ≤ length ns) where
  held_whole : (ls : List (List ℕ)) → whole_text t ≡ whole ls → cs' ≡ sets cs 0 (lengths ls) → ns' ≡ sets ns 0 (concat ls) → Held t cs' ns'
  held_whole ls w c n =
      let f = whole_fits t ls w in
      let room = limits-sum in
      let is_c : cs' ≡ lengths ls = c ∙ sets_all cs (lengths ls) (omega (arith, lengths-length ls, f.many)) in
      let is_n : ns' ≡ concat ls ++ drop (0 + length (concat ls)) ns = n ∙ sets-eq (concat ls) ns 0 (omega (arith, f.long)) in
      let is_s : sections_of cs' ns' ≡ ls = rw (is_c, is_n) (sections_again ls (drop (0 + length (concat ls)) ns)) in
      let long : length ns' ≡ length ns = rw n (length-sets ns 0 (concat ls)) in
      record {
        same = rw is_s w;
        fit = rw is_s f;
        nine = rw c (length-sets cs 0 (lengths ls) ∙ hc);
        inside = rw is_c (omega (arith, lengths-sum ls, f.long));
        few = rw is_c (omega (arith, lengths-sum ls, f.long));
      }

  pub held : (r : Result (Unit {0}) Refusal) → ReadText (whole_text t) cs cs' ns ns' r → r ≡ Ok tt → Held t cs' ns'
  held r e q = go (whole_text t) refl (sym q ∙ e.answer) e.counted e.stored
    where
      go : (s : Sections) → whole_text t ≡ s → Ok tt ≡ text_answer s → cs' ≡ sets cs 0 (lengths (finished s)) → ns' ≡ sets ns 0 (numbers_of s) → Held t cs' ns'
      go (broken ls ms why) w b c n = let z : ◌≡◌ {A = ℕ} 0 1 = cc in absurd (omega arith)
      go (whole ls) w b c n = held_whole ls w c n
