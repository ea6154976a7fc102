-- Vectors, settings, and the search for the first vector that passes. Assumes nothing of networks: a test says which settings are cut.
--     Agrees v s                the vector has the values that the setting decides
--     Precedes v w              the order of vectors: from input 0 on, 0 before 1
--     Shows Passes s found      the first agreeing vector that passes, or nothing where there is none
--     undecided s, decide b s   how many inputs are not decided; the next of them gets the value b
--     first_vector cut ties     the search, which starts with no untied input decided: the vector found, and the looks
--     Searched Passes ties o    what a search has to come to
use Rattle.std.specs.Prelude.{◌≡◌, ℕ, zero, suc, ◌+◌, ◌-◌, ◌^◌, ◌≤◌, Bool, true, false, ◌⊎◌, List, [], ◌∷◌, length, Some, None, Option}

-- a value for each input, input 0 first
abbrev pub Vector : Type 0
Vector = List Bool

-- for each input its value, or None where it is not decided; the ties are a setting, too
abbrev pub Setting : Type 0
Setting = List (Option Bool)

-- the vector has the value of each input that the setting decides
abbrev pub Agrees : Vector → Setting → Type 0
Agrees [] [] = Unit {0}
Agrees [] (o ∷ s) = ⊥
Agrees (x ∷ v) [] = ⊥
Agrees (x ∷ v) (None ∷ s) = Agrees v s
Agrees (x ∷ v) (Some y ∷ s) = (x ≡ y) × Agrees v s

-- the first input at which the vectors differ is 0 in the earlier one
abbrev pub Precedes : Vector → Vector → Type 0
Precedes [] w = ⊥
Precedes (x ∷ v) [] = ⊥
Precedes (false ∷ v) (true ∷ w) = Unit {0}
Precedes (true ∷ v) (false ∷ w) = ⊥
Precedes (false ∷ v) (false ∷ w) = Precedes v w
Precedes (true ∷ v) (true ∷ w) = Precedes v w

-- w is the first of the vectors that agree with the setting and pass
pub record First (Passes : Vector → Type 0) (s : Setting) (w : Vector) : Type 0 where
  pub agrees : Agrees w s
  pub holds : Passes w
  pub no_earlier : (v : Vector) → Agrees v s → Passes v → (v ≡ w) ⊎ Precedes w v

-- the first such vector, or nothing where there is none
abbrev pub Shows : (Vector → Type 0) → Setting → Option Vector → Type 0
Shows Passes s (Some w) = First Passes s w
Shows Passes s None = (v : Vector) → Agrees v s → Passes v → ⊥

-- how many inputs are not decided
abbrev pub undecided : Setting → ℕ
undecided [] = 0
undecided (Some x ∷ s) = undecided s
undecided (None ∷ s) = suc (undecided s)

-- the setting continued by its next undecided input, by number, which gets the value b
abbrev pub decide : Bool → Setting → Setting
decide b [] = []
decide b (Some x ∷ s) = Some x ∷ decide b s
decide b (None ∷ s) = Some b ∷ s

-- the setting that decides every input as the vector has it
abbrev pub whole : Vector → Setting
whole [] = []
whole (x ∷ v) = Some x ∷ whole v

-- the vector of a setting that decides every input (an undecided one would be read as 0)
abbrev pub vector : Setting → Vector
vector [] = []
vector (Some x ∷ s) = x ∷ vector s
vector (None ∷ s) = false ∷ vector s

-- the vector found, or none, and the looks: how many settings were tested
pub record Outcome : Type 0 where
  pub found : Option Vector
  pub looks : ℕ

-- a setting that decides everything: cut, or the vector found; one look
unfoldable pub last_look : Bool → Setting → Outcome
last_look true s = record { found = None; looks = 1 }
last_look false s = record { found = Some (vector s); looks = 1 }

-- after all continuations with 0: the vector found there, or else the continuations with 1
unfoldable pub zero_then_one : Option Vector → ℕ → Outcome → Outcome
zero_then_one (Some w) so_far with_1 = record { found = Some w; looks = so_far }
zero_then_one None so_far with_1 = record { found = with_1.found; looks = so_far + with_1.looks }

-- a setting that leaves an input undecided: cut, or continued with 0 and then with 1; one look, and theirs
unfoldable pub look : Bool → Outcome → Outcome → Outcome
look true with_0 with_1 = record { found = None; looks = 1 }
look false with_0 with_1 = zero_then_one with_0.found (1 + with_0.looks) with_1

-- the search from a setting with k undecided inputs, by the test whether a setting is cut
unfoldable pub search_from : (Setting → Bool) → ℕ → Setting → Outcome
search_from cut zero s = last_look (cut s) s
search_from cut (suc k) s =
    let with_0 : Outcome = search_from cut k (decide false s) in
    let with_1 : Outcome = search_from cut k (decide true s) in
    look (cut s) with_0 with_1

-- the search starts at the setting that decides the tied inputs alone
abbrev pub first_vector : (Setting → Bool) → Setting → Outcome
first_vector cut ties = search_from cut (undecided ties) ties

-- what a test owes: it cuts no setting with which a vector that passes agrees, and a whole vector that it does not cut passes
pub record Test (inputs : ℕ) (Passes : Vector → Type 0) (cut : Setting → Bool) : Type 0 where
  pub sound : (v : Vector) (s : Setting) → length s ≡ inputs → Agrees v s → Passes v → cut s ≡ false
  pub exact : (v : Vector) → length v ≡ inputs → cut (whole v) ≡ false → Passes v

-- the first vector that passes of those that agree with the ties, or nothing exactly where there is none;
-- with k untied inputs in 1 to 2^(k+1) - 1 looks
pub record Searched (Passes : Vector → Type 0) (ties : Setting) (outcome : Outcome) : Type 0 where
  pub shows : Shows Passes ties outcome.found
  pub nothing_if_none : ((v : Vector) → Agrees v ties → Passes v → ⊥) → outcome.found ≡ None
  pub one_look : 1 ≤ outcome.looks
  pub few_looks : outcome.looks ≤ 2 ^ (undecided ties + 1) - 1

-- the search comes to that, for every test that pays what it owes
abbrev pub SearchStands : Type 0
SearchStands =
    (passes : Vector → Bool) (cut : Setting → Bool) (ties : Setting) → Test (length ties) (λ v. passes v ≡ true) cut → Searched (λ v. passes v ≡ true) ties (first_vector cut ties)
