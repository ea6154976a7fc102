-- The first line of a name. Assumes nothing.
use Rattle.std.proofs.Common.{◌≡◌, ℕ, zero, suc, ◌+◌, ◌<◌, Bool, true, false, cond, List, [], ◌∷◌, map, Some, None, Option, sym, refl, ap, ◌∙◌, subst, add-one, arith, MatchOption}
use Rattle.std.specs.List.{position_from}
use Rattle.std.proofs.lemmas.Bool.{both_ways}
use Rattle.names.specs.Kept.{bytes_of}
use Rattle.names.specs.Names.{same_word}
use Rattle.names.specs.declared.name.Name.{Name}
use Rattle.network.specs.Sketches.{Named, FirstNamed, NoneNamed, FirstLine, line_named, name_bytes}

abbrev Names : Type 0
Names = List (Option (List ℕ))

-- What the number says.

-- the first of the names, which are numbered from i, has a number k past i
record From (i : ℕ) (names : Names) (name : List ℕ) (line : ℕ) : Type 0 where
  k : ℕ
  there : line ≡ i + k
  is_first : FirstNamed names name k

nameless : (names : Names) (name : List ℕ) → Named (None ∷ names) name 0 → ⊥
nameless names name h = let z : ◌≡◌ {A = ℕ} 0 1 = cc h.stands in omega arith

other : (own : List ℕ) (names : Names) (name : List ℕ) → same_word name own ≡ false → Named (Some own ∷ names) name 0 → ⊥
other own names name f h =
    let it : h.own ≡ own = cc h.stands in
    both_ways _ f (subst (λ v. same_word name v ≡ true) it h.same)

-- a name in front that is another one
later : (i : ℕ) (front : Option (List ℕ)) (names : Names) (name : List ℕ) → (Named (front ∷ names) name 0 → ⊥) → (o : Option ℕ) → MatchOption o (NoneNamed names name) (From (suc i) names name) → MatchOption o (NoneNamed (front ∷ names) name) (From i (front ∷ names) name)
later i front names name apart None t = none
  where
    none : NoneNamed (front ∷ names) name
    none zero h = apart h
    none (suc line) h = t line (record { own = h.own; stands = h.stands; same = h.same })
later i front names name apart (Some line) t = record { k = suc t.k; there = omega (arith, t.there); is_first = record { named = shifted t.is_first.named; first = first } }
  where
    shifted : Named names name t.k → Named (front ∷ names) name (suc t.k)
    shifted h = record { own = h.own; stands = h.stands; same = h.same }

    first : (lower : ℕ) → lower < suc t.k → Named (front ∷ names) name lower → ⊥
    first zero l h = apart h
    first (suc lower) l h = t.is_first.first lower (omega arith) (record { own = h.own; stands = h.stands; same = h.same })

tells : (i : ℕ) (names : Names) (name : List ℕ) → MatchOption (line_named i name names) (NoneNamed names name) (From i names name)
tells i [] name = λ line h. let z : ◌≡◌ {A = ℕ} 0 1 = cc h.stands in omega arith
tells i (None ∷ names) name = later i None names name (nameless names name) (line_named (suc i) name names) (tells (suc i) names name)
tells i (Some own ∷ names) name = by (same_word name own) refl (tells (suc i) names name)
  where
    by : (b : Bool) → same_word name own ≡ b → MatchOption (line_named (suc i) name names) (NoneNamed names name) (From (suc i) names name) → MatchOption (cond b (Some i) (line_named (suc i) name names)) (NoneNamed (Some own ∷ names) name) (From i (Some own ∷ names) name)
    by true e t = record { k = 0; there = omega arith; is_first = record { named = record { own = own; stands = refl; same = e }; first = λ lower l h. omega arith } }
    by false e t = later i (Some own) names name (other own names name e) (line_named (suc i) name names) t

pub first_named : (names : Names) (name : List ℕ) (o : Option ℕ) → o ≡ line_named 0 name names → FirstLine names name o
first_named names name o e = by o (subst (λ v. MatchOption v (NoneNamed names name) (From 0 names name)) (sym e) (tells 0 names name))
  where
    by : (o : Option ℕ) → MatchOption o (NoneNamed names name) (From 0 names name) → FirstLine names name o
    by None t = t
    by (Some line) t =
        let same : t.k ≡ line = omega (arith, t.there) in
        subst (FirstNamed names name) same t.is_first

pub none_named : (names : Names) (name : List ℕ) → NoneNamed names name → line_named 0 name names ≡ None
none_named names name none = by (line_named 0 name names) (first_named names name (line_named 0 name names) refl)
  where
    by : (o : Option ℕ) → FirstLine names name o → o ≡ None
    by None t = refl
    by (Some line) t = absurd (none line t.named)

pub some_named : (names : Names) (name : List ℕ) (line : ℕ) → Named names name line → (first : ℕ) × (line_named 0 name names ≡ Some first)
some_named names name line h = by (line_named 0 name names) refl (first_named names name (line_named 0 name names) refl)
  where
    by : (o : Option ℕ) → line_named 0 name names ≡ o → FirstLine names name o → (first : ℕ) × (line_named 0 name names ≡ Some first)
    by None e t = absurd (t line h)
    by (Some first) e t = (first, e)

-- Names as they are kept.

-- whether a line that is called so, or has no name, has the name
abbrev pub has_name : List ℕ → Option Name → Bool
has_name name None = false
has_name name (Some own) = same_word name (bytes_of own)

pub first_from : (name : List ℕ) (names : List (Option Name)) (i : ℕ) → position_from (has_name name) i names ≡ line_named i name (map name_bytes names)
first_from name [] i = refl
first_from name (None ∷ names) i = first_from name names (i + 1) ∙ ap (λ k. line_named k name (map name_bytes names)) (add-one i)
first_from name (Some own ∷ names) i = ap (λ v. cond (same_word name (bytes_of own)) (Some i) v) (first_from name names (i + 1) ∙ ap (λ k. line_named k name (map name_bytes names)) (add-one i))
