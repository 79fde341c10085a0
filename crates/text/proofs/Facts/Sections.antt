-- One section more of a text: what is still to be read decides.
use Rattle.std.specs.Prelude.{ℕ, ◌+◌, ◌≤◌, ◌<◌, List, [], ◌++◌, ◌≡◌, refl, Result, Ok, Err, Some, None, length, get_or, take, drop, set}
use Rattle.std.proofs.Common.{append_assoc, length-take, sym, ap, add-one, arith}
use Rattle.std.proofs.lemmas.List.Edits.{sets}
use Rattle.rules.specs.Lists.{concat, sum}
use Rattle.rules.specs.Text.{Number, number_at, numbers_at, Numbers, all_read, fault, section_at, Sections, whole, broken, push, before, sections_at, limits}
use Rattle.rules.specs.declared.Refusal.{Refusal}
use Rattle.rules.specs.declared.Refusal.TheVariants.{OverLimit, BadText}
use Rattle.rules.proofs.Facts.Counts.{drop_more}
use Rattle.rules.proofs.Facts.TextSections.{numbers_count, section_read, section_over, section_nothing, section_bad, section_count, sections_end, sections_value, sections_bad}
use Rattle.text.specs.Reading.{kept, next_of, end_of, section_answer, Stored, lengths, finished, numbers_of, text_answer, ReadText, most_numbers}
use Rattle.text.proofs.Facts.Numbers.{next_ok, kept_short}
use Rattle.text.proofs.Facts.Sets.{sets_append, front_sets}

-- a section, by its count
module _ (limit : ℕ) (t : List ℕ) (at : ℕ) where
  pub section_fault : (why : Refusal) → next_of (number_at t at) ≡ Err why → section_at limit t at ≡ fault [] why
  section_fault why q = go (number_at t at) refl q
    where
      go : (v : Number) → number_at t at ≡ v → next_of v ≡ Err why → section_at limit t at ≡ fault [] why
      go (Ok (Some v)) e h = cc
      go (Ok None) e h = let z : BadText ≡ why = cc in rw (← z) (section_nothing limit t at e)
      go (Err said) e h = let z : said ≡ why = cc in rw (← z) (section_bad limit t at said e)

  module _ (n e : ℕ) (q : next_of (number_at t at) ≡ Ok (n, e)) where
    pub section_next : n ≤ limit → section_at limit t at ≡ numbers_at n t e
    section_next h = section_read limit t at n e (next_ok (number_at t at) n e q) h

    pub section_long : limit < n → section_at limit t at ≡ fault [] OverLimit
    section_long h = section_over limit t at n e (next_ok (number_at t at) n e q) h

ok_pair : (a b c d : ℕ) → ◌≡◌ {A = Result (ℕ × ℕ) Refusal} (Ok (a, b)) (Ok (c, d)) → (a ≡ c) × (b ≡ d)
ok_pair a b c d q =
    let x : ℕ × ℕ = (a, b) in
    let y : ℕ × ℕ = (c, d) in
    let z : x ≡ y = cc in
    (ap (λ (v : ℕ × ℕ). v.0) z, ap (λ (v : ℕ × ℕ). v.1) z)

-- a section of n numbers, from what was read into a front of n
module _ (n : ℕ) (t : List ℕ) (at : ℕ) (out : List ℕ) (room : n ≤ length out) where
  front : length (take n out) ≡ n
  front = simp length-take (omega arith)

  pub section_stored : {last : List ℕ} → Stored (numbers_at (length (take n out)) t at) (take n out) last → Stored (numbers_at n t at) out (last ++ drop n out)
  section_stored h = let s = rw front at h in rw s (front_sets n 0 out (kept (numbers_at n t at)) (omega (arith, kept_short n t at)))

  pub section_done : (e : ℕ) → Ok e ≡ end_of (numbers_at (length (take n out)) t at) → Ok (n, e) ≡ section_answer (numbers_at n t at)
  section_done e q = go (numbers_at n t at) (λ ns p h. numbers_count n t at ns p h) (rw front at q)
    where
      go : (g : Numbers) → ((ns : List ℕ) (p : ℕ) → g ≡ all_read ns p → length ns ≡ n) → Ok e ≡ end_of g → Ok (n, e) ≡ section_answer g
      go (all_read ns p) f h = let z : e ≡ p = cc in rw (z, f ns p refl)
      go (fault ns why) f h = cc

  pub section_broken : (why : Refusal) → Err why ≡ end_of (numbers_at (length (take n out)) t at) → Err why ≡ section_answer (numbers_at n t at)
  section_broken why q = go (numbers_at n t at) (rw front at q)
    where
      go : (g : Numbers) → Err why ≡ end_of g → Err why ≡ section_answer g
      go (all_read ns p) h = cc
      go (fault ns said) h = let z : why ≡ said = cc in rw z

-- what an answer tells of what was read
answer_read : (g : Numbers) (n e : ℕ) → Ok (n, e) ≡ section_answer g → (g ≡ all_read (kept g) e) × (n ≡ length (kept g))
answer_read (all_read ns end) n e q = let p = ok_pair n e (length ns) end q in (rw p.1, p.0)
answer_read (fault ns why) n e q = cc

answer_fault : (g : Numbers) (why : Refusal) → Err why ≡ section_answer g → g ≡ fault (kept g) why
answer_fault (all_read ns end) why q = cc
answer_fault (fault ns said) why q = let z : said ≡ why = cc in rw z

pub section_within : (limit : ℕ) (t : List ℕ) (at n e : ℕ) → Ok (n, e) ≡ section_answer (section_at limit t at) → n ≤ limit
section_within limit t at n e q =
    let p = answer_read (section_at limit t at) n e q in
    omega (arith, p.1, section_count limit t at (kept (section_at limit t at)) e p.0)

-- what a read leaves, from section k and from place used on
pub record Ended : Type 0 where
  pub answer : Result (Unit {0}) Refusal
  pub counts : List ℕ
  pub numbers : List ℕ

abbrev pub ending : List ℕ → List ℕ → ℕ → ℕ → Sections → Ended
ending cs ns k used s = record { answer = text_answer s; counts = sets cs k (lengths (finished s)); numbers = sets ns used (numbers_of s) }

ending_push : (cs ns : List ℕ) (k used : ℕ) (g : List ℕ) (s : Sections) → ending cs ns k used (push g s) ≡ ending (set cs k (length g)) (sets ns used g) (k + 1) (used + length g) s
ending_push cs ns k used g (whole ls) = rw (add-one, sets_append g (concat ls) ns used)
ending_push cs ns k used g (broken ls ms why) = rw (add-one, append_assoc g (concat ls) ms, sets_append g (concat ls ++ ms) ns used)

-- k sections have been read, their numbers stand before place used, and the text goes on at `at`
module _ (ls t cs ns : List ℕ) (k used at : ℕ) where
  module _ (h : k < length ls) where
    abbrev g : Numbers
    g = section_at (get_or ls k 0) t at

    abbrev rest : ℕ → Sections
    rest = sections_at (drop (k + 1) ls) t

    this : sections_at (drop k ls) t at ≡ before g rest
    unfolding sections_at
    this = rw (drop_more ls k h)

    pub text_more : (n e : ℕ) (ns' : List ℕ) → Ok (n, e) ≡ section_answer g → ns' ≡ sets ns used (kept g)
        → ending cs ns k used (sections_at (drop k ls) t at) ≡ ending (set cs k n) ns' (k + 1) (used + n) (sections_at (drop (k + 1) ls) t e)
    text_more n e ns' q w =
        let p = answer_read g n e q in
        let b : before g rest ≡ push (kept g) (rest e) = ap (λ (x : Numbers). before x rest) p.0 in
        rw (this, b, w, p.1) (ending_push cs ns k used (kept g) (rest e))

    pub text_fault : (why : Refusal) (ns' : List ℕ) → Err why ≡ section_answer g → ns' ≡ sets ns used (kept g)
        → ending cs ns k used (sections_at (drop k ls) t at) ≡ record { answer = Err why; counts = cs; numbers = ns' }
    text_fault why ns' q w =
        let b : before g rest ≡ broken [] (kept g) why = ap (λ (x : Numbers). before x rest) (answer_fault g why q) in
        rw (this, b, w)

  module _ (h : drop k ls ≡ []) where
    pub text_end : number_at t at ≡ Ok None → ending cs ns k used (sections_at (drop k ls) t at) ≡ record { answer = Ok tt; counts = cs; numbers = ns }
    text_end q = rw (h, sections_end t at q)

    pub text_value : (n e : ℕ) → number_at t at ≡ Ok (Some (n, e)) → ending cs ns k used (sections_at (drop k ls) t at) ≡ record { answer = Err BadText; counts = cs; numbers = ns }
    text_value n e q = rw (h, sections_value t at n e q)

    pub text_bad : (why : Refusal) → number_at t at ≡ Err why → ending cs ns k used (sections_at (drop k ls) t at) ≡ record { answer = Err why; counts = cs; numbers = ns }
    text_bad why q = rw (h, sections_bad t at why q)

-- what is left at the end is what the contract says
pub text_is : (s : Sections) (cs ns cs' ns' : List ℕ) (r : Result (Unit {0}) Refusal) → ending cs ns 0 0 s ≡ record { answer = r; counts = cs'; numbers = ns' } → ReadText s cs cs' ns ns' r
text_is s cs ns cs' ns' r e = record { answer = sym (ap (λ (x : Ended). x.answer) e); counted = sym (ap (λ (x : Ended). x.counts) e); stored = sym (ap (λ (x : Ended). x.numbers) e) }

-- the nine sections' limits together
pub limits-sum : sum limits ≡ most_numbers
limits-sum = refl
