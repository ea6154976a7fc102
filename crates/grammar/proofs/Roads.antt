-- How readings follow one another: what was read, and what the recogniser then still has to read. Assumes nothing.
use Rattle.std.proofs.Common.{◌≡◌, ℕ, zero, suc, ◌+◌, ◌-◌, ◌<◌, ◌≤◌, Bool, true, false, eqb, List, [], ◌∷◌, ◌++◌, length, get_or, take, drop, IsErrAnd, Some, None, Ok, Err, Result, sym, refl, ap, ◌∙◌, subst, append_assoc, append-nil, arith, Bor, length-append, length-drop, take-append-drop, eq-eqb, eqb-true, MatchResult}
use Rattle.std.proofs.lemmas.Result.{MatchResult-weaker, MatchResult-at_ok, MatchResult-at_err}
use Rattle.std.proofs.lemmas.List.{drop-drop, drop_more, length-take-le}
use Rattle.sheets.specs.Words.{SheetWord}
use Rattle.sheets.specs.Recogniser.{Item, Outcome, step, open_brackets, outcome, may_end, bytes_then}
use Rattle.sheets.proofs.Complete.{goes, taken, left, bytes_run}
use Rattle.grammar.specs.declared.fault.GrammarFault.{GrammarFault}
use Rattle.grammar.specs.declared.fault.GrammarFault.TheVariants.{Broken}
use Rattle.grammar.specs.declared.word.Word.{Word}
use Rattle.grammar.specs.Fronts.{ByteFront, WordFront, NoWordFront}
use Rattle.grammar.specs.Readers.{WordKept}
use Rattle.grammar.specs.Views.{view}
use Rattle.grammar.specs.Readings.{At, rest, Took, NextIs, out, Ends, NotHere, WordRead}
use Rattle.grammar.proofs.Fronts.{broken_here, broken_end}

-- what the exit of a `?` returns
pub break_cases : {X : Type 0} (r : Result X GrammarFault) (P : X → Type 0) (Q : GrammarFault → Type 0) (f : GrammarFault) → IsErrAnd r (λ y. y ≡ f) → Q f → MatchResult r P Q
break_cases (Ok x) P Q f e q = absurd e
break_cases (Err y) P Q f e q = subst Q (sym e) q

-- The next bytes.

not_eqb : (c b : ℕ) (u : Bool) → eqb c b ≡ u → (c ≡ b → ⊥) → eqb c b ≡ false
not_eqb c b true e n = absurd (n (eqb-true c b e))
not_eqb c b false e n = e

pub next_there : (b : ℕ) (a : At) → NextIs b a true → a.place + 1 ≤ length a.text
next_there b a (xs, r) = omega (arith, ap length r, length-drop a.place a.text)

-- What was taken.

pub took_none : (a : At) → Took [] [] a a
took_none a = record { same_text = refl; on = omega arith; read = refl; kept = sym (append-nil a.words) }

pub took_then : {xs ys : List ℕ} {ws vs : List SheetWord} {a b c : At} → Took xs ws a b → Took ys vs b c → Took (xs ++ ys) (ws ++ vs) a c
took_then {xs} {ys} {ws} {vs} {a} {b} {c} f g = record {
  same_text = g.same_text ∙ f.same_text;
  on = omega (arith, f.on, g.on, length-append xs ys);
  read = f.read ∙ ap (λ v. xs ++ v) g.read ∙ sym (append_assoc xs ys (rest c));
  kept = g.kept ∙ ap (λ v. v ++ vs) f.kept ∙ append_assoc a.words ws vs;
}

pub took_as : {xs ys : List ℕ} {ws vs : List SheetWord} {a b : At} → xs ≡ ys → ws ≡ vs → Took xs ws a b → Took ys vs a b
took_as {xs} {ys} {ws} {vs} {a} {b} e f t = subst (λ z. Took z vs a b) e (subst (λ z. Took xs z a b) f t)

-- so many bytes, as one word
pub took_front : (a b : At) (n : ℕ) (w : SheetWord) → a.place + n ≤ length a.text → b.text ≡ a.text → b.place ≡ a.place + n → b.words ≡ a.words ++ (w ∷ []) → Took (take n (rest a)) (w ∷ []) a b
took_front a b n w there text on kept =
    let long : length (take n (rest a)) ≡ n = length-take-le n (rest a) (omega (arith, length-drop a.place a.text)) in
    let onward : drop n (rest a) ≡ rest b = drop-drop n a.place a.text ∙ ap (λ p. drop p a.text) (sym on) ∙ ap (drop b.place) (sym text) in
    record { same_text = text; on = omega (arith, on, long); read = sym (take-append-drop n (rest a)) ∙ ap (λ v. take n (rest a) ++ v) onward; kept = kept }

-- the next byte, as a word or as none
pub took_next : (a b : At) (c : ℕ) (ws : List SheetWord) → NextIs c a true → b.text ≡ a.text → b.place ≡ a.place + 1 → b.words ≡ a.words ++ ws → Took (c ∷ []) ws a b
took_next a b c ws (xs, r) text on kept =
    let there : a.place < length a.text = omega (arith, ap length r, length-drop a.place a.text) in
    let more = drop_more a.text a.place 0 there in
    let onward : drop (a.place + 1) a.text ≡ rest b = ap (λ p. drop p a.text) (sym on) ∙ ap (drop b.place) (sym text) in
    let tail : xs ≡ drop (a.place + 1) a.text = let both = sym r ∙ more in cc in
    record { same_text = text; on = on; read = r ∙ ap (λ v. c ∷ v) (tail ∙ onward); kept = kept }

-- Where a reading ends.

pub ends_as : (text : List ℕ) (f : GrammarFault) (o p : Outcome) → o ≡ p → Ends text f p → Ends text f o
ends_as text f o p e = subst (Ends text f) (sym e)

-- no more is there, or a byte that the item does not admit
pub stuck_on : (i : Item) (t : List Item) (r : List ℕ) → ((c : ℕ) (xs : List ℕ) → r ≡ c ∷ xs → step (i ∷ t) c ≡ None) → open_brackets (i ∷ t) ≤ 9 → may_end (i ∷ t) ≡ false → outcome 9 (Some (i ∷ t)) r ≡ Outcome.broken (length r)
stuck_on i t [] fails ok end = broken_end i t ok end
stuck_on i t (c ∷ xs) fails ok end = broken_here i c xs t ok (fails c xs refl)

pub other_byte : (b : ℕ) (a : At) → NextIs b a false → (c : ℕ) (xs : List ℕ) → rest a ≡ c ∷ xs → eqb c b ≡ false
other_byte b a n c xs r = not_eqb c b (eqb c b) refl (λ e. n xs (r ∙ ap (λ v. v ∷ xs) e))

pub broken_there : (a : At) (f : GrammarFault) (o : Outcome) → a.place ≤ length a.text → f ≡ Broken a.place → o ≡ Outcome.broken (length (rest a)) → Ends a.text f o
broken_there a f o within e h = subst (λ g. Ends a.text g o) (sym e) (within, h ∙ ap Outcome.broken (length-drop a.place a.text))

pub stuck : (i : Item) (b : ℕ) (t : List Item) (a : At) (f : GrammarFault) → ((c : ℕ) → eqb c b ≡ false → step (i ∷ t) c ≡ None) → open_brackets (i ∷ t) ≤ 9 → may_end (i ∷ t) ≡ false → a.place ≤ length a.text → NotHere b a f → Ends a.text f (out (i ∷ t) a)
stuck i b t a f fails ok end within h = broken_there a f _ within h.0 (stuck_on i t (rest a) (λ c xs r. fails c (other_byte b a h.1 c xs r)) ok end)

pub byte_stuck : (b : ℕ) (t : List Item) (a : At) (f : GrammarFault) → open_brackets t ≤ 9 → a.place ≤ length a.text → NotHere b a f → Ends a.text f (out (Item.byte b ∷ t) a)
unfolding step
byte_stuck b t a f ok within h = stuck (Item.byte b) b t a f (λ c e. left (eqb c b) _ _ e) ok refl within h

-- Steps on.

-- one step of the recogniser over the next byte
pub step_on : (s t : List Item) (b : ℕ) (ws : List SheetWord) (m n : At) → open_brackets s ≤ 9 → step s b ≡ Some t → Took (b ∷ []) ws m n → out s m ≡ out t n
step_on s t b ws m n ok e took = ap (outcome 9 (Some s)) took.read ∙ goes 9 s b (rest n) ok ∙ ap (λ o. outcome 9 o (rest n)) e

pub byte_on : (b : ℕ) (t : List Item) (ws : List SheetWord) (m n : At) → open_brackets t ≤ 9 → Took (b ∷ []) ws m n → out (Item.byte b ∷ t) m ≡ out t n
unfolding step
byte_on b t ws m n ok took = step_on (Item.byte b ∷ t) t b ws m n ok (taken (eqb b b) _ _ (eq-eqb b b refl)) took

-- From a, where `asked s` was to be read, to b, where `still s` is, for each s that fits.
pub record Road (Fit : List Item → Type 0) (asked : List Item → List Item) (a : At) (still : List Item → List Item) (b : At) (xs : List ℕ) (ws : List SheetWord) : Type 0 where
  pub took : Took xs ws a b
  pub leads : (s : List Item) → Fit s → out (asked s) a ≡ out (still s) b

pub road_none : (Fit : List Item → Type 0) (asked : List Item → List Item) (a : At) → Road Fit asked a asked a [] []
road_none Fit asked a = record { took = took_none a; leads = λ s ok. refl }

pub road_on : {Fit : List Item → Type 0} {asked still : List Item → List Item} {a m n : At} {xs ys : List ℕ} {ws vs : List SheetWord} (next : List Item → List Item) → Road Fit asked a still m xs ws → Took ys vs m n → ((s : List Item) → Fit s → out (still s) m ≡ out (next s) n) → Road Fit asked a next n (xs ++ ys) (ws ++ vs)
road_on next road took on = record { took = took_then road.took took; leads = λ s ok. road.leads s ok ∙ on s ok }

pub road_stop : {Fit : List Item → Type 0} {asked still : List Item → List Item} {a m : At} {xs : List ℕ} {ws : List SheetWord} (f : GrammarFault) → Road Fit asked a still m xs ws → ((s : List Item) → Fit s → Ends m.text f (out (still s) m)) → (s : List Item) → Fit s → Ends a.text f (out (asked s) a)
road_stop {still = still} {a = a} {m = m} f road ends s ok = ends_as a.text f _ _ (road.leads s ok) (subst (λ t. Ends t f (out (still s) m)) road.took.same_text (ends s ok))

-- Words.

pub word_fails : (i : Item) (a : At) (k : ℕ) (s : List ℕ) → a.place ≤ length a.text → s ≡ rest a → NoWordFront i s k → (t : List Item) → open_brackets t ≤ 9 → Ends a.text (Broken (a.place + k)) (out (i ∷ t) a)
word_fails i a k s within e front t ok =
    let h : NoWordFront i (rest a) k = subst (λ v. NoWordFront i v k) e front in
    let long = length-drop a.place a.text in
    (omega (arith, h.0, long), h.1 t ok ∙ ap Outcome.broken (omega (arith, long)))

abbrev Made : Type 1
Made = Bor (List ℕ) → ℕ → Word → Type 0

-- what was found at the front, kept as a word, or where a word breaks
abbrev Found : {X : Type 0} → Made → Result ℕ ℕ → At → At → Result X GrammarFault → Type 0
Found M found a b r = MatchResult r (λ _. (len : ℕ) × (found ≡ Ok len) × WordKept M len a b) (λ f. (most : ℕ) × (found ≡ Err most) × (f ≡ Broken (a.place + most)))

module _ (M : Made) (make : List ℕ → ℕ → SheetWord) (a b : At) (is : (part : Bor (List ℕ)) (w : Word) → M part a.place w → view w ≡ make part.now a.place) (s : List ℕ) (e : s ≡ rest a) (found : Result ℕ ℕ) where
  kept_as : (n : ℕ) → WordKept M n a b → Took (take n (rest a)) (make (take n (rest a)) a.place ∷ []) a b
  kept_as n h = took_as refl (ap (λ w. w ∷ []) (is h.part h.word h.made ∙ ap (λ v. make v a.place) h.is)) h.took

  pub word_found : (Is : List ℕ → Type 0) (i : Item) {X : Type 0} (r : Result X GrammarFault) → a.place ≤ length a.text → MatchResult found (WordFront Is i s) (NoWordFront i s) → Found M found a b r → MatchResult r (λ _. WordRead Is i make a b) (λ f. (t : List Item) → open_brackets t ≤ 9 → Ends a.text f (out (i ∷ t) a))
  word_found Is i r within front h =
      MatchResult-weaker r h (λ _ k. read k.0 (MatchResult-at_ok _ _ k.0 k.1 front) k.2)
      (λ f k t ok. subst (λ g. Ends a.text g (out (i ∷ t) a)) (sym k.2) (word_fails i a k.0 s within e (MatchResult-at_err _ _ k.0 k.1 front) t ok))
    where
      read : (n : ℕ) → WordFront Is i s n → WordKept M n a b → WordRead Is i make a b
      read n front kept =
          let h : WordFront Is i (rest a) n = subst (λ v. WordFront Is i v n) e front in
          let long : length (take n (rest a)) ≡ n = length-take-le n (rest a) h.0 in
          let on : a.place + n ≡ b.place = omega (arith, kept.took.on, long) in
          let onward : drop n (rest a) ≡ rest b = drop-drop n a.place a.text ∙ ap (λ p. drop p a.text) on ∙ ap (drop b.place) (sym kept.took.same_text) in
          record { bytes = take n (rest a); lawful = h.1; took = kept_as n kept; moves = λ t ok. h.2 t ok ∙ ap (outcome 9 (Some t)) onward }

  pub byte_found : (c : ℕ) {X : Type 0} (r : Result X GrammarFault) → ByteFront c s found → Found M found a b r → MatchResult r (λ _. Took (c ∷ []) (make (c ∷ []) a.place ∷ []) a b) (NotHere c a)
  byte_found c r front h =
      MatchResult-weaker r h (λ _ k. read k.0 (MatchResult-at_ok _ _ k.0 k.1 front) k.2)
      (λ f k. let none = MatchResult-at_err _ _ k.0 k.1 front in (k.2 ∙ ap Broken (omega (arith, none.0)), λ xs q. none.1 xs (e ∙ q)))
    where
      read : (n : ℕ) → (n ≡ 1) × ((xs : List ℕ) × (s ≡ c ∷ xs)) → WordKept M n a b → Took (c ∷ []) (make (c ∷ []) a.place ∷ []) a b
      read n front kept =
          let here : take n (rest a) ≡ c ∷ [] = ap (λ k. take k (rest a)) front.0 ∙ ap (take 1) (sym e ∙ front.1.1) in
          subst (λ v. Took v (make v a.place ∷ []) a b) here (kept_as n kept)

-- there is so much to keep
module _ (a : At) (s : List ℕ) (e : s ≡ rest a) (within : a.place ≤ length a.text) (found : Result ℕ ℕ) where
  abbrev There : Type 0
  There = MatchResult found (λ n. (1 ≤ n) × (a.place + n ≤ length a.text)) (λ k. a.place + k ≤ length a.text)

  left_over : length s ≡ length a.text - a.place
  left_over = ap length e ∙ length-drop a.place a.text

  pub word_there : (Is : List ℕ → Type 0) (i : Item) → (Is [] → ⊥) → MatchResult found (WordFront Is i s) (NoWordFront i s) → There
  word_there Is i none front = MatchResult-weaker found front (λ n h. (some n h.1, omega (arith, h.0, left_over))) (λ k h. omega (arith, h.0, left_over))
    where
      some : (n : ℕ) → Is (take n s) → 1 ≤ n
      some zero h = absurd (none h)
      some (suc n) h = omega arith

  pub byte_there : (c : ℕ) → ByteFront c s found → There
  byte_there c front = MatchResult-weaker found front (λ n h. (omega (arith, h.0), omega (arith, h.0, ap length h.1.1, left_over))) (λ k h. omega (arith, h.0))

-- Fixed bytes.

pub literal_on : (bs : List ℕ) (t : List Item) (ws : List SheetWord) (a b : At) → open_brackets t ≤ 9 → Took bs ws a b → out (bytes_then bs t) a ≡ out t b
literal_on bs t ws a b ok took = ap (outcome 9 (Some (bytes_then bs t))) took.read ∙ bytes_run (outcome 9) 9 (goes 9) bs t (rest b) ok

bytes_then_append : (xs ys : List ℕ) (s : List Item) → bytes_then (xs ++ ys) s ≡ bytes_then xs (bytes_then ys s)
bytes_then_append [] ys s = refl
bytes_then_append (x ∷ xs) ys s = ap (λ v. Item.byte x ∷ v) (bytes_then_append xs ys s)

pub flat : (cs : List ℕ) (s : List Item) → open_brackets (bytes_then cs s) ≡ open_brackets s
flat [] s = refl
flat (c ∷ cs) s = flat cs s

pub literal_stuck : (bs : List ℕ) (i : ℕ) (ws : List SheetWord) (a m : At) (f : GrammarFault) → i < length bs → m.place ≤ length m.text → Took (take i bs) ws a m → NotHere (get_or bs i 0) m f → (s : List Item) → open_brackets s ≤ 9 → Ends a.text f (out (bytes_then bs s) a)
literal_stuck bs i ws a m f l within took n s ok =
    let more = bytes_then (drop (i + 1) bs) s in
    let low : open_brackets more ≤ 9 = omega (arith, flat (drop (i + 1) bs) s) in
    let cut : bs ≡ take i bs ++ (get_or bs i 0 ∷ drop (i + 1) bs) = sym (take-append-drop i bs) ∙ ap (λ v. take i bs ++ v) (drop_more bs i 0 l) in
    let items : bytes_then bs s ≡ bytes_then (take i bs) (Item.byte (get_or bs i 0) ∷ more) = ap (λ v. bytes_then v s) cut ∙ bytes_then_append (take i bs) (get_or bs i 0 ∷ drop (i + 1) bs) s in
    let there : Ends a.text f (out (Item.byte (get_or bs i 0) ∷ more) m) = subst (λ t. Ends t f (out (Item.byte (get_or bs i 0) ∷ more) m)) took.same_text (byte_stuck (get_or bs i 0) more m f low within n) in
    ends_as a.text f _ _ (ap (λ v. out v a) items ∙ literal_on (take i bs) (Item.byte (get_or bs i 0) ∷ more) ws a m low took) there
