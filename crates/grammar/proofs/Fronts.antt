-- The words at the front of a text. Assumes nothing.
use Rattle.std.proofs.Common.{◌≡◌, ℕ, zero, suc, ◌+◌, ◌-◌, ◌<◌, ◌≤◌, Bool, true, false, cond, eqb, leb, ◌⊎◌, List, [], ◌∷◌, length, get_or, take, drop, Some, None, sym, refl, ap, ◌∙◌, subst, inl, inr, add-one, arith, eq-eqb, eqb-true, le-leb}
use Rattle.std.specs.List.{prefix_len}
use Rattle.std.proofs.lemmas.List.{drop_more, length-drop}
use Rattle.names.specs.Names.{letter, digit, name_byte, star}
use Rattle.sheets.specs.Sheet.{Name, CellWord, Delay}
use Rattle.sheets.specs.Recogniser.{Item, Outcome, step, open_brackets, outcome, may_end}
use Rattle.grammar.specs.Fronts.{Front, WordFront, NoWordFront}
use Rattle.sheets.proofs.Complete.{goes, taken, left}
use Rattle.sheets.proofs.Letters.{Starred, name_made, word_made}

-- those of the first few that pass, counted up to the first that does not
pub front_of : (test : ℕ → Bool) (most : ℕ) (s : List ℕ) → Front test most s (prefix_len test (take most s))
front_of test zero s = record { within = omega arith; few = omega arith; all = tt; stops = λ l m. absurd (omega arith) }
front_of test (suc k) [] = record { within = omega arith; few = omega arith; all = tt; stops = λ l m. absurd (omega arith) }
front_of test (suc k) (b ∷ bs) = by (test b) refl (front_of test k bs)
  where
    by : (t : Bool) → test b ≡ t → Front test k bs (prefix_len test (take k bs)) → Front test (suc k) (b ∷ bs) (cond t (1 + prefix_len test (take k bs)) 0)
    by false e f = record { within = omega arith; few = omega arith; all = tt; stops = λ l m. e }
    by true e f =
        let n = prefix_len test (take k bs) in
        let same : suc n ≡ 1 + n = omega arith in
        subst (Front test (suc k) (b ∷ bs)) same (record { within = omega (arith, f.within); few = omega (arith, f.few); all = (e, f.all); stops = λ l m. f.stops (omega arith) (omega arith) })

-- the tail of a front
front_tail : (test : ℕ → Bool) (k : ℕ) (b : ℕ) (bs : List ℕ) (r : ℕ) → Front test (suc k) (b ∷ bs) (suc r) → Front test k bs r
front_tail test k b bs r f = record { within = omega (arith, f.within); few = omega (arith, f.few); all = f.all.1; stops = λ l m. f.stops (omega arith) (omega arith) }

-- a kind of what is asked that reads such a front, a byte at a time, and may read less
module _ (test : ℕ → Bool) (kind : ℕ → Item)
    (flat : (k : ℕ) (t : List Item) → open_brackets (kind k ∷ t) ≡ open_brackets t)
    (at_end : (k : ℕ) (t : List Item) → outcome 9 (Some (kind k ∷ t)) [] ≡ outcome 9 (Some t) [])
    (full : (t : List Item) (b : ℕ) → step (kind 0 ∷ t) b ≡ step t b)
    (one : (k : ℕ) (t : List Item) (b : ℕ) → step (kind (suc k) ∷ t) b ≡ cond (test b) (Some (kind k ∷ t)) (step t b)) where
  front_moves : (k : ℕ) (s : List ℕ) (r : ℕ) (t : List Item) → open_brackets t ≤ 9 → Front test k s r → outcome 9 (Some (kind k ∷ t)) s ≡ outcome 9 (Some t) (drop r s)
  front_moves k [] zero t ok f = at_end k t
  front_moves k [] (suc r) t ok f = absurd (omega (arith, f.within))
  front_moves zero (b ∷ bs) zero t ok f = goes 9 (kind 0 ∷ t) b bs (omega (arith, flat 0 t)) ∙ ap (λ o. outcome 9 o bs) (full t b) ∙ sym (goes 9 t b bs ok)
  front_moves zero (b ∷ bs) (suc r) t ok f = absurd (omega (arith, f.few))
  front_moves (suc k) (b ∷ bs) zero t ok f =
      goes 9 (kind (suc k) ∷ t) b bs (omega (arith, flat (suc k) t)) ∙ ap (λ o. outcome 9 o bs) (one k t b ∙ left (test b) _ _ (f.stops (omega arith) (omega arith))) ∙ sym (goes 9 t b bs ok)
  front_moves (suc k) (b ∷ bs) (suc r) t ok f =
      goes 9 (kind (suc k) ∷ t) b bs (omega (arith, flat (suc k) t)) ∙ ap (λ o. outcome 9 o bs) (one k t b ∙ taken (test b) _ _ f.all.0) ∙ front_moves k bs r t ok (front_tail test k b bs r f)

pub name_rest_moves : (k : ℕ) (s : List ℕ) (r : ℕ) (t : List Item) → open_brackets t ≤ 9 → Front name_byte k s r → outcome 9 (Some (Item.name_rest k ∷ t)) s ≡ outcome 9 (Some t) (drop r s)
unfolding step outcome
name_rest_moves = front_moves name_byte Item.name_rest (λ k t. refl) (λ k t. refl) (λ t b. refl) (λ k t b. refl)

pub digits_moves : (k : ℕ) (s : List ℕ) (r : ℕ) (t : List Item) → open_brackets t ≤ 9 → Front digit k s r → outcome 9 (Some (Item.digits k ∷ t)) s ≡ outcome 9 (Some t) (drop r s)
unfolding step outcome
digits_moves = front_moves digit Item.digits (λ k t. refl) (λ k t. refl) (λ t b. refl) (λ k t b. refl)

length_front : (s : List ℕ) (r : ℕ) → r ≤ length s → length (take r s) ≡ r
length_front s zero h = refl
length_front [] (suc r) h = absurd (omega arith)
length_front (b ∷ bs) (suc r) h = ap suc (length_front bs r (omega arith))

-- a name
pub name_front : (b : ℕ) (bs : List ℕ) (r : ℕ) → letter b ≡ true → Front name_byte 7 bs r → WordFront Name Item.name (b ∷ bs) (suc r)
unfolding step
name_front b bs r h f = (omega (arith, f.within), name_made (b ∷ take r bs) (h, f.all, omega (arith, length_front bs r f.within, f.few)), λ t ok. goes 9 (Item.name ∷ t) b bs ok ∙ ap (λ o. outcome 9 o bs) (taken (letter b) _ _ h) ∙ name_rest_moves 7 bs r t ok f)

-- where the first step fails
pub broken_here : (i : Item) (b : ℕ) (bs : List ℕ) (t : List Item) → open_brackets (i ∷ t) ≤ 9 → step (i ∷ t) b ≡ None → outcome 9 (Some (i ∷ t)) (b ∷ bs) ≡ Outcome.broken (suc (length bs))
unfolding outcome
broken_here i b bs t ok e = goes 9 (i ∷ t) b bs ok ∙ ap (λ o. outcome 9 o bs) e

pub broken_end : (i : Item) (t : List Item) → open_brackets (i ∷ t) ≤ 9 → may_end (i ∷ t) ≡ false → outcome 9 (Some (i ∷ t)) [] ≡ Outcome.broken 0
unfolding outcome
broken_end i t ok e = taken (leb (open_brackets (i ∷ t)) 9) _ _ (le-leb (open_brackets (i ∷ t)) 9 ok) ∙ left (may_end (i ∷ t)) _ _ e

clash : (f : ℕ → Bool) (b c : ℕ) → b ≡ c → f b ≡ false → f c ≡ true → ⊥
clash f b c e h k = let z : true ≡ false = sym k ∙ sym (ap f e) ∙ h in let y : ◌≡◌ {A = ℕ} 0 1 = cc in omega arith

-- no more is there, or the next byte fails the test
abbrev pub NoNext : (ℕ → Bool) → List ℕ → ℕ → Type 0
NoNext test s n = (length s ≤ n) ⊎ (test (get_or s n 0) ≡ false)

-- Names.

pub name_no : (s : List ℕ) → NoNext letter s 0 → NoWordFront Item.name s 0
unfolding step
name_no [] h = (omega arith, λ t ok. broken_end Item.name t ok refl)
name_no (b ∷ bs) (inl h) = absurd (omega arith)
name_no (b ∷ bs) (inr h) = (omega arith, λ t ok. broken_here Item.name b bs t ok (left (letter b) _ _ h) ∙ ap Outcome.broken (omega arith))

pub name_yes : (s tail : List ℕ) (r : ℕ) → 0 < length s → letter (get_or s 0 0) ≡ true → tail ≡ drop 1 s → Front name_byte 7 tail r → WordFront Name Item.name s (1 + r)
name_yes [] tail r l h e f = absurd (omega arith)
name_yes (b ∷ bs) tail r l h e f =
    let same : suc r ≡ 1 + r = omega arith in
    subst (WordFront Name Item.name (b ∷ bs)) same (name_front b bs r h (subst (λ v. Front name_byte 7 v r) e f))

-- Cell words.

-- n bytes, one more, and r more
abbrev past : ℕ → ℕ → ℕ
past zero r = suc r
past (suc n) r = suc (past n r)

past_is : (n r : ℕ) → past n r ≡ n + 1 + r
past_is zero r = omega arith
past_is (suc n) r = omega (arith, past_is n r)

abbrev StarredFront : ℕ → List ℕ → ℕ → Type 0
StarredFront k s m = (m ≤ length s) × Starred (take m s) × ((t : List Item) → open_brackets t ≤ 9 → outcome 9 (Some (Item.word k ∷ t)) s ≡ outcome 9 (Some t) (drop m s))

word_at : (n k : ℕ) (s : List ℕ) (r : ℕ) → Front star k s n → n < length s → letter (get_or s n 0) ≡ true → Front name_byte (k - n) (drop (suc n) s) r → StarredFront k s (past n r)
unfolding step
word_at n k [] r f l h g = absurd (omega arith)
word_at zero zero (b ∷ bs) r f l h g =
    (omega (arith, g.within), inr (h, g.all), λ t ok. goes 9 (Item.word 0 ∷ t) b bs ok ∙ ap (λ o. outcome 9 o bs) (taken (letter b) _ _ h) ∙ name_rest_moves 0 bs r t ok g)
word_at zero (suc k) (b ∷ bs) r f l h g =
    let same : suc k - 0 ≡ suc k = omega arith in
    (omega (arith, g.within), inr (h, g.all), λ t ok. goes 9 (Item.word (suc k) ∷ t) b bs ok ∙ ap (λ o. outcome 9 o bs) (taken (letter b) _ _ h) ∙ name_rest_moves (suc k) bs r t ok (subst (λ m. Front name_byte m bs r) same g))
word_at (suc n) zero (b ∷ bs) r f l h g = absurd (omega (arith, f.few))
word_at (suc n) (suc k) (b ∷ bs) r f l h g =
    let same : suc k - suc n ≡ k - n = omega arith in
    let more = word_at n k bs r (front_tail star k b bs n f) (omega arith) h (subst (λ m. Front name_byte m (drop (suc n) bs) r) same g) in
    let starred : b ≡ 42 = eqb-true b 42 f.all.0 in
    (omega (arith, more.0), inl (starred, more.1), λ t ok. goes 9 (Item.word (suc k) ∷ t) b bs ok ∙ ap (λ o. outcome 9 o bs) (left (letter b) _ _ (ap letter starred) ∙ taken (eqb b 42) _ _ f.all.0) ∙ more.2 t ok)

-- the rest after the first n bytes, where there is one
pub rest_more : (s rest : List ℕ) (n : ℕ) → rest ≡ drop n s → 1 ≤ length rest → (n < length s) × (rest ≡ get_or s n 0 ∷ drop (n + 1) s)
rest_more s rest n e l =
    let more : n < length s = omega (arith, l, ap length e, length-drop n s) in
    (more, e ∙ drop_more s n 0 more)

pub word_yes : (s tail : List ℕ) (n r : ℕ) → Front star 7 s n → n < length s → letter (get_or s n 0) ≡ true → tail ≡ drop (n + 1) s → Front name_byte (7 - n) tail r → WordFront CellWord (Item.word 7) s (n + 1 + r)
word_yes s tail n r f l h e g =
    let here : tail ≡ drop (suc n) s = e ∙ ap (λ k. drop k s) (add-one n) in
    let w = word_at n 7 s r f l h (subst (λ v. Front name_byte (7 - n) v r) here g) in
    let long : past n r ≤ 8 = omega (arith, past_is n r, g.few, f.few) in
    subst (WordFront CellWord (Item.word 7) s) (past_is n r) (w.0, word_made (take (past n r) s) w.1 (omega (arith, length_front s (past n r) w.0)), w.2)

word_no_at : (n k : ℕ) (s : List ℕ) → Front star k s n → NoNext letter s n → NoWordFront (Item.word k) s n
unfolding step
word_no_at zero k [] f h = (omega arith, λ t ok. broken_end (Item.word k) t ok refl)
word_no_at (suc n) k [] f h = absurd (omega (arith, f.within))
word_no_at zero k (b ∷ bs) f (inl h) = absurd (omega arith)
word_no_at zero zero (b ∷ bs) f (inr h) = (omega arith, λ t ok. broken_here (Item.word 0) b bs t ok (left (letter b) _ _ h) ∙ ap Outcome.broken (omega arith))
word_no_at zero (suc k) (b ∷ bs) f (inr h) =
    (omega arith, λ t ok. broken_here (Item.word (suc k)) b bs t ok (left (letter b) _ _ h ∙ left (eqb b 42) _ _ (f.stops (omega arith) (omega arith))) ∙ ap Outcome.broken (omega arith))
word_no_at (suc n) zero (b ∷ bs) f h = absurd (omega (arith, f.few))
word_no_at (suc n) (suc k) (b ∷ bs) f h =
    let shorter : NoNext letter bs n = elim h [ inl l ↦ inl (omega arith) | inr e ↦ inr e ] in
    let more = word_no_at n k bs (front_tail star k b bs n f) shorter in
    let starred : b ≡ 42 = eqb-true b 42 f.all.0 in
    (omega (arith, more.0), λ t ok. goes 9 (Item.word (suc k) ∷ t) b bs ok ∙ ap (λ o. outcome 9 o bs) (left (letter b) _ _ (ap letter starred) ∙ taken (eqb b 42) _ _ f.all.0) ∙ more.1 t ok ∙ ap Outcome.broken (omega arith))

pub word_no : (s : List ℕ) (n : ℕ) → Front star 7 s n → NoNext letter s n → NoWordFront (Item.word 7) s n
word_no s n f h = word_no_at n 7 s f h

-- Delays.

pub delay_no : (s : List ℕ) → NoNext digit s 0 → NoWordFront Item.delay s 0
unfolding step
delay_no [] h = (omega arith, λ t ok. broken_end Item.delay t ok refl)
delay_no (b ∷ bs) (inl h) = absurd (omega arith)
delay_no (b ∷ bs) (inr h) =
    (omega arith, λ t ok. broken_here Item.delay b bs t ok (left (eqb b 48) _ _ (not_zero (eqb b 48) refl) ∙ left (digit b) _ _ h) ∙ ap Outcome.broken (omega arith))
  where
    not_zero : (t : Bool) → eqb b 48 ≡ t → eqb b 48 ≡ false
    not_zero true e = absurd (clash digit b 48 (eqb-true b 48 e) h refl)
    not_zero false e = e

pub delay_zero : (s : List ℕ) → 0 < length s → get_or s 0 0 ≡ 48 → WordFront Delay Item.delay s 1
unfolding step
delay_zero [] l e = absurd (omega arith)
delay_zero (b ∷ bs) l e = (omega arith, (ap digit e, tt, omega arith, λ z. refl), λ t ok. goes 9 (Item.delay ∷ t) b bs ok ∙ ap (λ o. outcome 9 o bs) (taken (eqb b 48) _ _ (eq-eqb b 48 e)))

ne_false : (b c : ℕ) (t : Bool) → eqb b c ≡ t → (b ≡ c → ⊥) → eqb b c ≡ false
ne_false b c true e h = absurd (h (eqb-true b c e))
ne_false b c false e h = e

pub delay_more : (s tail : List ℕ) (r : ℕ) → 0 < length s → digit (get_or s 0 0) ≡ true → (get_or s 0 0 ≡ 48 → ⊥) → tail ≡ drop 1 s → Front digit 6 tail r → WordFront Delay Item.delay s (1 + r)
unfolding step
delay_more [] tail r l h z e f = absurd (omega arith)
delay_more (b ∷ bs) tail r l h z e f =
    let same : suc r ≡ 1 + r = omega arith in
    let g : Front digit 6 bs r = subst (λ v. Front digit 6 v r) e f in
    let here : WordFront Delay Item.delay (b ∷ bs) (suc r) = (omega (arith, g.within), (h, g.all, omega (arith, length_front bs r g.within, g.few), λ y. absurd (z y)), λ t ok. goes 9 (Item.delay ∷ t) b bs ok ∙ ap (λ o. outcome 9 o bs) (left (eqb b 48) _ _ (ne_false b 48 (eqb b 48) refl z) ∙ taken (digit b) _ _ h) ∙ digits_moves 6 bs r t ok g) in
    subst (WordFront Delay Item.delay (b ∷ bs)) same here
