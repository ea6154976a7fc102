-- What the recogniser's outcome says of the text. Assumes nothing.
use Rattle.std.proofs.Common.{◌≡◌, ℕ, zero, suc, pred, ◌-◌, ◌<◌, ◌≤◌, Bool, true, false, cond, eqb, leb, List, [], ◌∷◌, ◌++◌, length, take, drop, Some, None, codes, Option, sym, refl, ap, ◌∙◌, subst, inl, inr, append_assoc, append-nil, arith, length-append, take-append-drop, eqb-true, leb-false, leb-true}
use Rattle.std.proofs.Math.Seq.{take-append_seam}
use Rattle.std.proofs.lemmas.List.{take-take, take_all, take-append-le}
use Rattle.std.proofs.str.Laws.{order}
use Rattle.names.specs.Names.{letter, digit, name_byte}
use Rattle.sheets.specs.Sheet.{Form, LawfulForms, sheet_depth, sheet_text, open_after, Sheet, Viable, NineDeep, Shallow, Broken, TooDeep}
use Rattle.sheets.specs.Recogniser.{Item, Outcome, step, after, bytes_then, cell_rest, open_brackets, outcome, may_end}
use Rattle.sheets.proofs.Sound.{live_viable}
use Rattle.sheets.proofs.Complete.{sheet_accepted, failed_not_viable, after_append, forms_run, goes}

-- one byte more
abbrev bump : ℕ → ℕ → ℕ
bump n b = cond (eqb b 40) (suc n) (cond (eqb b 41) (pred n) n)

-- a byte that passes a test which no bracket passes
bump_other : (b n : ℕ) (f : ℕ → Bool) → f b ≡ true → f 40 ≡ false → f 41 ≡ false → bump n b ≡ n
bump_other b n f yes_b no_40 no_41 = at (eqb b 40) refl (eqb b 41) refl
  where
    clash : (c : ℕ) → b ≡ c → f c ≡ false → ⊥
    clash c e h = let z : true ≡ false = sym yes_b ∙ ap f e ∙ h in let y : ◌≡◌ {A = ℕ} 0 1 = cc in omega arith

    at : (t : Bool) → eqb b 40 ≡ t → (u : Bool) → eqb b 41 ≡ u → cond t (suc n) (cond u (pred n) n) ≡ n
    at true e u h = absurd (clash 40 (eqb-true b 40 e) no_40)
    at false e true h = absurd (clash 41 (eqb-true b 41 h) no_41)
    at false e false h = refl

bump_open : (b n : ℕ) → eqb b 40 ≡ true → bump n b ≡ suc n
bump_open b n e = ap (bump n) (eqb-true b 40 e)

bump_close : (b n : ℕ) → eqb b 41 ≡ true → bump n b ≡ pred n
bump_close b n e = ap (bump n) (eqb-true b 41 e)

-- no single byte that is still to be read is a bracket
abbrev Plain : List Item → Type 0
Plain [] = Unit {0}
Plain (Item.byte c ∷ s) = ((eqb 40 c ≡ false) × (eqb 41 c ≡ false)) × Plain s
Plain (Item.name ∷ s) = Plain s
Plain (Item.name_rest k ∷ s) = Plain s
Plain (Item.word k ∷ s) = Plain s
Plain (Item.delay ∷ s) = Plain s
Plain (Item.digits k ∷ s) = Plain s
Plain (Item.cell ∷ s) = Plain s
Plain (Item.pin ∷ s) = Plain s
Plain (Item.pins k ∷ s) = Plain s
Plain (Item.form ∷ s) = Plain s
Plain (Item.close ∷ s) = Plain s
Plain (Item.forms ∷ s) = Plain s

abbrev Keeps : Option (List Item) → ℕ → Type 0
Keeps None n = Unit {0}
Keeps (Some s) n = (open_brackets s ≡ n) × Plain s

by_test : (t : Bool) (x y : Option (List Item)) (n : ℕ) → (t ≡ true → Keeps x n) → (t ≡ false → Keeps y n) → Keeps (cond t x y) n
by_test true x y n f g = f refl
by_test false x y n f g = g refl

if_test : (t : Bool) (s : List Item) (n : ℕ) → (t ≡ true → Keeps (Some s) n) → Keeps (cond t (Some s) None) n
if_test true s n f = f refl
if_test false s n f = tt

step_keeps : (s : List Item) (b : ℕ) → Plain s → Keeps (step s b) (bump (open_brackets s) b)
unfolding step
step_keeps [] b h = tt
step_keeps (Item.byte c ∷ s) b h = if_test (eqb b c) s _ (λ e. (sym (bump_other b (open_brackets s) (λ y. eqb y c) e h.0.0 h.0.1), h.1))
step_keeps (Item.name ∷ s) b h = if_test (letter b) (Item.name_rest 7 ∷ s) _ (λ e. (sym (bump_other b (open_brackets s) letter e refl refl), h))
step_keeps (Item.name_rest zero ∷ s) b h = step_keeps s b h
step_keeps (Item.name_rest (suc k) ∷ s) b h =
    by_test (name_byte b) (Some (Item.name_rest k ∷ s)) (step s b) _ (λ e. (sym (bump_other b (open_brackets s) name_byte e refl refl), h)) (λ e. step_keeps s b h)
step_keeps (Item.word zero ∷ s) b h = if_test (letter b) (Item.name_rest 0 ∷ s) _ (λ e. (sym (bump_other b (open_brackets s) letter e refl refl), h))
step_keeps (Item.word (suc k) ∷ s) b h =
    by_test (letter b) (Some (Item.name_rest (suc k) ∷ s)) (cond (eqb b 42) (Some (Item.word k ∷ s)) None) _ (λ e. (sym (bump_other b (open_brackets s) letter e refl refl), h))
    (λ e. if_test (eqb b 42) (Item.word k ∷ s) _ (λ f. (sym (bump_other b (open_brackets s) (λ y. eqb y 42) f refl refl), h)))
step_keeps (Item.delay ∷ s) b h =
    by_test (eqb b 48) (Some s) (cond (digit b) (Some (Item.digits 6 ∷ s)) None) _ (λ e. (sym (bump_other b (open_brackets s) (λ y. eqb y 48) e refl refl), h))
    (λ e. if_test (digit b) (Item.digits 6 ∷ s) _ (λ f. (sym (bump_other b (open_brackets s) digit f refl refl), h)))
step_keeps (Item.digits zero ∷ s) b h = step_keeps s b h
step_keeps (Item.digits (suc k) ∷ s) b h =
    by_test (digit b) (Some (Item.digits k ∷ s)) (step s b) _ (λ e. (sym (bump_other b (open_brackets s) digit e refl refl), h)) (λ e. step_keeps s b h)
step_keeps (Item.cell ∷ s) b h = if_test (eqb b 40) (cell_rest s) _ (λ e. (sym (bump_open b (open_brackets s) e), ((refl, refl), ((refl, refl), h))))
step_keeps (Item.pin ∷ s) b h =
    by_test (letter b) (Some (Item.name_rest 7 ∷ s)) (cond (eqb b 40) (Some (cell_rest s)) None) _ (λ e. (sym (bump_other b (open_brackets s) letter e refl refl), h))
    (λ e. if_test (eqb b 40) (cell_rest s) _ (λ f. (sym (bump_open b (open_brackets s) f), ((refl, refl), ((refl, refl), h)))))
step_keeps (Item.pins zero ∷ s) b h = if_test (eqb b 41) s _ (λ e. (sym (bump_close b (suc (open_brackets s)) e), h))
step_keeps (Item.pins (suc k) ∷ s) b h =
    by_test (eqb b 41) (Some s) (cond (eqb b 32) (Some (Item.pin ∷ Item.pins k ∷ s)) None) _ (λ e. (sym (bump_close b (suc (open_brackets s)) e), h))
    (λ e. if_test (eqb b 32) (Item.pin ∷ Item.pins k ∷ s) _ (λ f. (sym (bump_other b (suc (open_brackets s)) (λ y. eqb y 32) f refl refl), h)))
step_keeps (Item.form ∷ s) b h =
    by_test (eqb b 105) (Some (bytes_then (codes "nput ") (Item.name ∷ Item.byte 32 ∷ Item.delay ∷ s))) (cond (eqb b 108) (Some (bytes_then (codes "ine ") (Item.name ∷ Item.byte 32 ∷ Item.cell ∷ s))) None) _
    (λ e. (sym (bump_other b (open_brackets s) (λ y. eqb y 105) e refl refl), ((refl, refl), ((refl, refl), ((refl, refl), ((refl, refl), ((refl, refl), ((refl, refl), h))))))))
    (λ e. if_test (eqb b 108) (bytes_then (codes "ine ") (Item.name ∷ Item.byte 32 ∷ Item.cell ∷ s)) _ (λ f. (sym (bump_other b (open_brackets s) (λ y. eqb y 108) f refl refl), ((refl, refl), ((refl, refl), ((refl, refl), ((refl, refl), ((refl, refl), h))))))))
step_keeps (Item.close ∷ s) b h = if_test (eqb b 41) s _ (λ e. (sym (bump_close b (suc (open_brackets s)) e), h))
step_keeps (Item.forms ∷ s) b h = if_test (eqb b 40) (Item.form ∷ Item.close ∷ Item.byte 10 ∷ Item.forms ∷ s) _ (λ e. (sym (bump_open b (open_brackets s) e), ((refl, refl), h)))

keeps_at : (s : List Item) (n b : ℕ) → Keeps (Some s) n → Keeps (step s b) (bump n b)
keeps_at s n b k = subst (λ m. Keeps (step s b) (bump m b)) k.0 (step_keeps s b k.1)

keeps_after : (o : Option (List Item)) (xs : List ℕ) (n : ℕ) → Keeps o n → Keeps (after o xs) (open_after n xs)
unfolding after
keeps_after None xs n k = tt
keeps_after (Some s) [] n k = k
keeps_after (Some s) (b ∷ bs) n k = keeps_after (step s b) bs (bump n b) (keeps_at s n b k)

-- no state on the way has more brackets open than the limit
abbrev AllLow : ℕ → Option (List Item) → List ℕ → Type 0
AllLow limit None xs = ⊥
AllLow limit (Some s) [] = open_brackets s ≤ limit
AllLow limit (Some s) (b ∷ bs) = (open_brackets s ≤ limit) × AllLow limit (step s b) bs

low_brackets : (limit : ℕ) (o : Option (List Item)) (xs : List ℕ) (n q : ℕ) → AllLow limit o xs → Keeps o n → q ≤ length xs → open_after n (take q xs) ≤ limit
low_brackets limit None xs n q low k w = absurd low
low_brackets limit (Some s) [] n zero low k w = omega (arith, k.0)
low_brackets limit (Some s) [] n (suc q) low k w = absurd (omega arith)
low_brackets limit (Some s) (b ∷ bs) n zero low k w = omega (arith, k.0, low.0)
low_brackets limit (Some s) (b ∷ bs) n (suc q) low k w = low_brackets limit (step s b) bs (bump n b) q low.1 (keeps_at s n b k) (omega arith)

abbrev Stops : List Item → List ℕ → Type 0
Stops last [] = may_end last ≡ false
Stops last (b ∷ bs) = step last b ≡ None

record BrokenRun (limit : ℕ) (s : List Item) (text : List ℕ) (n : ℕ) : Type 0 where
  front : List ℕ
  back : List ℕ
  split : front ++ back ≡ text
  long : length back ≡ n
  last : List Item
  run : after (Some s) front ≡ Some last
  stops : Stops last back
  low : AllLow limit (Some s) front

broken_run : (limit : ℕ) (s : List Item) (text : List ℕ) (n : ℕ) → outcome limit (Some s) text ≡ Outcome.broken n → BrokenRun limit s text n
unfolding outcome after
broken_run limit s [] n e = at (leb (open_brackets s) limit) refl (may_end s) refl e
  where
    at : (t : Bool) → leb (open_brackets s) limit ≡ t → (m : Bool) → may_end s ≡ m → cond t (cond m Outcome.whole (Outcome.broken 0)) (Outcome.deep 1) ≡ Outcome.broken n → BrokenRun limit s [] n
    at true low true m e = let z : ◌≡◌ {A = ℕ} 0 1 = cc in absurd (omega arith)
    at true low false m e = record { front = []; back = []; split = refl; long = cc; last = s; run = refl; stops = m; low = leb-true (open_brackets s) limit low }
    at false low true m e = let z : ◌≡◌ {A = ℕ} 0 1 = cc in absurd (omega arith)
    at false low false m e = let z : ◌≡◌ {A = ℕ} 0 1 = cc in absurd (omega arith)
broken_run limit s (b ∷ bs) n e = at (leb (open_brackets s) limit) refl (step s b) refl e (λ s2 e2. broken_run limit s2 bs n e2)
  where
    at : (t : Bool) → leb (open_brackets s) limit ≡ t → (o : Option (List Item)) → step s b ≡ o → cond t (outcome limit o bs) (Outcome.deep (suc (suc (length bs)))) ≡ Outcome.broken n → ((s2 : List Item) → outcome limit (Some s2) bs ≡ Outcome.broken n → BrokenRun limit s2 bs n) → BrokenRun limit s (b ∷ bs) n
    at true low None m e rec = record { front = []; back = b ∷ bs; split = refl; long = cc; last = s; run = refl; stops = m; low = leb-true (open_brackets s) limit low }
    at true low (Some s2) m e rec =
        let r = rec s2 e in
        record { front = b ∷ r.front; back = r.back; split = ap (λ y. b ∷ y) r.split; long = r.long; last = r.last; run = ap (λ o. after o r.front) m ∙ r.run; stops = r.stops; low = (leb-true (open_brackets s) limit low, subst (λ o. AllLow limit o r.front) (sym m) r.low) }
    at false low None m e rec = let z : ◌≡◌ {A = ℕ} 0 1 = cc in absurd (omega arith)
    at false low (Some s2) m e rec = let z : ◌≡◌ {A = ℕ} 0 1 = cc in absurd (omega arith)

record DeepRun (limit : ℕ) (s : List Item) (text : List ℕ) (n : ℕ) : Type 0 where
  front : List ℕ
  opening : ℕ
  back : List ℕ
  split : front ++ (opening ∷ back) ≡ text
  long : suc (length back) ≡ n
  last : List Item
  run : after (Some s) front ≡ Some last
  next : List Item
  steps : step last opening ≡ Some next
  high : limit < open_brackets next
  low : AllLow limit (Some s) front

deep_run : (limit : ℕ) (s : List Item) (text : List ℕ) (n : ℕ) → open_brackets s ≤ limit → outcome limit (Some s) text ≡ Outcome.deep n → DeepRun limit s text n
unfolding outcome after
deep_run limit s [] n low e = at (leb (open_brackets s) limit) refl (may_end s) e
  where
    at : (t : Bool) → leb (open_brackets s) limit ≡ t → (m : Bool) → cond t (cond m Outcome.whole (Outcome.broken 0)) (Outcome.deep 1) ≡ Outcome.deep n → DeepRun limit s [] n
    at true h true e = let z : ◌≡◌ {A = ℕ} 0 1 = cc in absurd (omega arith)
    at true h false e = let z : ◌≡◌ {A = ℕ} 0 1 = cc in absurd (omega arith)
    at false h true e = absurd (omega (arith, leb-false (open_brackets s) limit h))
    at false h false e = absurd (omega (arith, leb-false (open_brackets s) limit h))
deep_run limit s (b ∷ bs) n low e = at (leb (open_brackets s) limit) refl (step s b) refl e (λ s2 l2 e2. deep_run limit s2 bs n l2 e2)
  where
    ended : (s2 : List Item) (bs : List ℕ) → leb (open_brackets s2) limit ≡ false → outcome limit (Some s2) bs ≡ Outcome.deep (suc (length bs))
    ended s2 [] h = ap (λ t. cond t (cond (may_end s2) Outcome.whole (Outcome.broken 0)) (Outcome.deep 1)) h
    ended s2 (c ∷ cs) h = ap (λ t. cond t (outcome limit (step s2 c) cs) (Outcome.deep (suc (suc (length cs))))) h

    further : (s2 : List Item) (t : Bool) → leb (open_brackets s2) limit ≡ t → step s b ≡ Some s2 → outcome limit (Some s2) bs ≡ Outcome.deep n → ((s2 : List Item) → open_brackets s2 ≤ limit → outcome limit (Some s2) bs ≡ Outcome.deep n → DeepRun limit s2 bs n) → DeepRun limit s (b ∷ bs) n
    further s2 true h m e rec =
        let r = rec s2 (leb-true (open_brackets s2) limit h) e in
        record { front = b ∷ r.front; opening = r.opening; back = r.back; split = ap (λ y. b ∷ y) r.split; long = r.long; last = r.last; run = ap (λ o. after o r.front) m ∙ r.run; next = r.next; steps = r.steps; high = r.high; low = (low, subst (λ o. AllLow limit o r.front) (sym m) r.low) }
    further s2 false h m e rec =
        let same : Outcome.deep n ≡ Outcome.deep (suc (length bs)) = sym e ∙ ended s2 bs h in
        record { front = []; opening = b; back = bs; split = refl; long = cc; last = s; run = refl; next = s2; steps = m; high = omega (arith, leb-false (open_brackets s2) limit h); low = low }

    at : (t : Bool) → leb (open_brackets s) limit ≡ t → (o : Option (List Item)) → step s b ≡ o → cond t (outcome limit o bs) (Outcome.deep (suc (suc (length bs)))) ≡ Outcome.deep n → ((s2 : List Item) → open_brackets s2 ≤ limit → outcome limit (Some s2) bs ≡ Outcome.deep n → DeepRun limit s2 bs n) → DeepRun limit s (b ∷ bs) n
    at false h None m e rec = absurd (omega (arith, leb-false (open_brackets s) limit h))
    at false h (Some s2) m e rec = absurd (omega (arith, leb-false (open_brackets s) limit h))
    at true h None m e rec = let z : ◌≡◌ {A = ℕ} 0 1 = cc in absurd (omega arith)
    at true h (Some s2) m e rec = further s2 (leb (open_brackets s2) limit) refl m e rec

-- The outcome in the words of the sheet. At the start no bracket is open; nine are the form's and those of eight cells.

take_one_more : (xs : List ℕ) (b : ℕ) (ys : List ℕ) → take (suc (length xs)) (xs ++ (b ∷ ys)) ≡ xs ++ (b ∷ [])
take_one_more [] b ys = refl
take_one_more (x ∷ xs) b ys = ap (λ y. x ∷ y) (take_one_more xs b ys)

low_shallow : (front back : List ℕ) → AllLow 9 (Some (Item.forms ∷ [])) front → Shallow (front ++ back) (length front)
low_shallow front back low q h deep =
    let few = low_brackets 9 (Some (Item.forms ∷ [])) front 0 (suc q) low (refl, tt) h in
    let ten : open_after 0 (take (suc q) front) ≡ 10 = ap (open_after 0) (sym (take-append-le (suc q) front back h)) ∙ deep.1 in
    omega arith

not_ended : (last : List Item) → Item.forms ∷ [] ≡ last → may_end last ≡ false → ⊥
not_ended last e h = let z : true ≡ false = ap may_end e ∙ h in let y : ◌≡◌ {A = ℕ} 0 1 = cc in omega arith

after_one : (s : List Item) (b : ℕ) → after (Some s) (b ∷ []) ≡ step s b
unfolding after
after_one s b = at (step s b)
  where
    at : (o : Option (List Item)) → after o [] ≡ o
    at None = refl
    at (Some s2) = refl

-- one byte more after a run
run_more : (s last : List Item) (front : List ℕ) (b : ℕ) → after (Some s) front ≡ Some last → after (Some s) (front ++ (b ∷ [])) ≡ step last b
run_more s last front b run = after_append (Some s) front (b ∷ []) ∙ ap (λ o. after o (b ∷ [])) run ∙ after_one last b

broken_front : (front back : List ℕ) (last : List Item) → after (Some (Item.forms ∷ [])) front ≡ Some last → Stops last back → AllLow 9 (Some (Item.forms ∷ [])) front → Broken (front ++ back) (length front)
broken_front front [] last run stops low =
    let all = append-nil front in
    record {
      within = omega (arith, ap length all);
      possible = subst Viable (sym (take-append_seam front [])) (live_viable front last run);
      byte = λ less. absurd (omega (arith, ap length all));
      end = λ e sheet.
          let (fs, lawful, text) = sheet in
          let same : Some (Item.forms ∷ []) ≡ Some last = sym (sheet_accepted fs lawful) ∙ ap (after (Some (Item.forms ∷ []))) (text ∙ all) ∙ run in
          let here : Item.forms ∷ [] ≡ last = cc in
          not_ended last here stops;
      shallow = low_shallow front [] low;
    }
broken_front front (b ∷ bs) last run stops low =
    let long = length-append front (b ∷ bs) in
    record {
      within = omega arith;
      possible = subst Viable (sym (take-append_seam front (b ∷ bs))) (live_viable front last run);
      byte = λ less viable. failed_not_viable (front ++ (b ∷ [])) (run_more (Item.forms ∷ []) last front b run ∙ stops) (subst Viable (take_one_more front b bs) viable);
      end = λ e. absurd (omega arith);
      shallow = low_shallow front (b ∷ bs) low;
    }

-- the place of a text that is broken
pub broken_verdict : (text : List ℕ) (n : ℕ) → outcome 9 (Some (Item.forms ∷ [])) text ≡ Outcome.broken n → Broken text (length text - n)
broken_verdict text n e =
    let r = broken_run 9 (Item.forms ∷ []) text n e in
    let place : length r.front ≡ length text - n = omega (arith, ap length r.split, length-append r.front r.back, r.long) in
    subst (Broken text) place (subst (λ t. Broken t (length r.front)) r.split (broken_front r.front r.back r.last r.run r.stops r.low))

at_most_one : (n b : ℕ) → bump n b ≤ suc n
at_most_one n b = at (eqb b 40) (eqb b 41)
  where
    at : (t u : Bool) → cond t (suc n) (cond u (pred n) n) ≤ suc n
    at true u = omega arith
    at false true = let h : pred n ≤ suc n = omega arith in h
    at false false = let h : n ≤ suc n = omega arith in h

low_last : (limit : ℕ) (o : Option (List Item)) (xs : List ℕ) (last : List Item) → AllLow limit o xs → after o xs ≡ Some last → open_brackets last ≤ limit
unfolding after
low_last limit None xs last low e = absurd low
low_last limit (Some s) [] last low e = let same : s ≡ last = cc in subst (λ v. open_brackets v ≤ limit) same low
low_last limit (Some s) (b ∷ bs) last low e = low_last limit (step s b) bs last low.1 e

deep_front : (front : List ℕ) (b : ℕ) (back : List ℕ) (last next : List Item) → after (Some (Item.forms ∷ [])) front ≡ Some last → step last b ≡ Some next → 9 < open_brackets next → AllLow 9 (Some (Item.forms ∷ [])) front → TooDeep (front ++ (b ∷ back)) (length front)
deep_front front b back last next run steps high low =
    let long = length-append front (b ∷ back) in
    let more : after (Some (Item.forms ∷ [])) (front ++ (b ∷ [])) ≡ Some next = run_more (Item.forms ∷ []) last front b run ∙ steps in
    let kept : Keeps (Some next) (open_after 0 (front ++ (b ∷ []))) = subst (λ o. Keeps o (open_after 0 (front ++ (b ∷ [])))) more (keeps_after (Some (Item.forms ∷ [])) (front ++ (b ∷ [])) 0 (refl, tt)) in
    let was : Keeps (Some last) (open_after 0 front) = subst (λ o. Keeps o (open_after 0 front)) run (keeps_after (Some (Item.forms ∷ [])) front 0 (refl, tt)) in
    let now_is : Keeps (Some next) (bump (open_brackets last) b) = subst (λ o. Keeps o (bump (open_brackets last) b)) steps (step_keeps last b was.1) in
    let few = low_last 9 (Some (Item.forms ∷ [])) front last low run in
    let ten : open_after 0 (front ++ (b ∷ [])) ≡ 10 = omega (arith, kept.0, now_is.0, at_most_one (open_brackets last) b) in
    record {
      within = omega arith;
      opens = subst NineDeep (sym (take_one_more front b back)) (live_viable (front ++ (b ∷ [])) next more, ten);
      shallow = low_shallow front (b ∷ back) low;
    }

-- the place of a text that opens a ninth cell
pub deep_verdict : (text : List ℕ) (n : ℕ) → outcome 9 (Some (Item.forms ∷ [])) text ≡ Outcome.deep n → TooDeep text (length text - n)
deep_verdict text n e =
    let r = deep_run 9 (Item.forms ∷ []) text n (omega arith) e in
    let place : length r.front ≡ length text - n = omega (arith, ap length r.split, length-append r.front (r.opening ∷ r.back), r.long) in
    subst (TooDeep text) place (subst (λ t. TooDeep t (length r.front)) r.split (deep_front r.front r.opening r.back r.last r.next r.run r.steps r.high r.low))

-- a sheet that is read whole never has too many brackets open
whole_low : (limit : ℕ) (s : List Item) (text : List ℕ) → outcome limit (Some s) text ≡ Outcome.whole → AllLow limit (Some s) text
unfolding outcome
whole_low limit s [] e = at (leb (open_brackets s) limit) refl (may_end s) e
  where
    at : (t : Bool) → leb (open_brackets s) limit ≡ t → (m : Bool) → cond t (cond m Outcome.whole (Outcome.broken 0)) (Outcome.deep 1) ≡ Outcome.whole → open_brackets s ≤ limit
    at true h m e = leb-true (open_brackets s) limit h
    at false h true e = let z : ◌≡◌ {A = ℕ} 0 1 = cc in absurd (omega arith)
    at false h false e = let z : ◌≡◌ {A = ℕ} 0 1 = cc in absurd (omega arith)
whole_low limit s (b ∷ bs) e = at (leb (open_brackets s) limit) refl (step s b) refl e (λ s2 e2. whole_low limit s2 bs e2)
  where
    at : (t : Bool) → leb (open_brackets s) limit ≡ t → (o : Option (List Item)) → step s b ≡ o → cond t (outcome limit o bs) (Outcome.deep (suc (suc (length bs)))) ≡ Outcome.whole → ((s2 : List Item) → outcome limit (Some s2) bs ≡ Outcome.whole → AllLow limit (Some s2) bs) → (open_brackets s ≤ limit) × AllLow limit (step s b) bs
    at true h None m e rec = let z : ◌≡◌ {A = ℕ} 0 1 = cc in absurd (omega arith)
    at true h (Some s2) m e rec = (leb-true (open_brackets s) limit h, subst (λ o. AllLow limit o bs) (sym m) (rec s2 e))
    at false h o m e rec = let z : ◌≡◌ {A = ℕ} 0 1 = cc in absurd (omega arith)

-- Each text has at most one of these.

shorter : (text : List ℕ) (p q : ℕ) → p ≤ q → Viable (take q text) → Viable (take p text)
shorter text p q h (rest, sheet) =
    let cut : take p text ++ drop p (take q text) ≡ take q text = ap (λ v. v ++ drop p (take q text)) (sym (take-take p q text h)) ∙ take-append-drop p (take q text) in
    (drop p (take q text) ++ rest, subst Sheet (ap (λ v. v ++ rest) (sym cut) ∙ append_assoc (take p text) (drop p (take q text)) rest) sheet)

pub broken_not_sheet : (text : List ℕ) (p : ℕ) → Broken text p → Sheet text → ⊥
broken_not_sheet text p b sheet = elim (order p (length text)) [ inl l ↦ b.byte l (shorter text (suc p) (length text) l whole) | inr l ↦ b.end (omega (arith, b.within)) sheet ]
  where
    whole : Viable (take (length text) text)
    whole = ([], subst Sheet (sym (ap (λ v. v ++ []) (take_all (length text) text (omega arith)) ∙ append-nil text)) sheet)

pub broken_one : (text : List ℕ) (p q : ℕ) → Broken text p → Broken text q → p ≡ q
broken_one text p q b c = elim (order p q) [ inl l ↦ absurd (b.byte (omega (arith, c.within)) (shorter text (suc p) q l c.possible)) | inr l ↦ elim (order q p) [ inl m ↦ absurd (c.byte (omega (arith, b.within)) (shorter text (suc q) p m b.possible)) | inr m ↦ omega arith ] ]

pub deep_one : (text : List ℕ) (p q : ℕ) → TooDeep text p → TooDeep text q → p ≡ q
deep_one text p q b c = elim (order p q) [ inl l ↦ absurd (c.shallow p l b.opens) | inr l ↦ elim (order q p) [ inl m ↦ absurd (b.shallow q m c.opens) | inr m ↦ omega arith ] ]

pub not_both : (text : List ℕ) (p q : ℕ) → Broken text p → TooDeep text q → ⊥
not_both text p q b c = elim (order q p) [ inl l ↦ b.shallow q l c.opens | inr l ↦ b.byte (omega (arith, c.within)) (shorter text (suc p) (suc q) (omega arith) c.opens.0) ]

pub deep_not_shallow : (fs : List Form) (p : ℕ) → LawfulForms fs → sheet_depth fs ≤ 8 → TooDeep (sheet_text fs) p → ⊥
unfolding outcome
deep_not_shallow fs p lawful low deep =
    let read : outcome 9 (Some (Item.forms ∷ [])) (sheet_text fs) ≡ Outcome.whole = ap (outcome 9 (Some (Item.forms ∷ []))) (sym (append-nil (sheet_text fs))) ∙ forms_run (outcome 9) 9 (goes 9) fs [] (omega arith) lawful in
    let few = low_brackets 9 (Some (Item.forms ∷ [])) (sheet_text fs) 0 (suc p) (whole_low 9 (Item.forms ∷ []) (sheet_text fs) read) (refl, tt) deep.within in
    omega (arith, deep.opens.1)
