-- Formulas of metric temporal logic with past, and their truth on endless words.
use Rattle.std.specs.Prelude.{◌≡◌, ℕ, suc, ◌+◌, ◌-◌, ◌<◌, ◌≤◌, Bool, true, ◌⊎◌}

pub data Formula : Type 0 where
  signal : ℕ → Formula
  negation : Formula → Formula
  conjunction disjunction : Formula → Formula → Formula
  next : Formula → Formula
  until release : Formula → Formula → Formula
  after within throughout : Formula → ℕ → Formula
  previous weak_previous : Formula → Formula
  since trigger : Formula → Formula → Formula
  ago lately steadily : Formula → ℕ → Formula

-- an endless word says of each instant which signals are on
abbrev pub Word : Type 0
Word = ℕ → ℕ → Bool

-- a course says what is true at each instant
abbrev pub Course : Type 1
Course = ℕ → Type 0

-- B at some instant j from i on, with A at every instant from i to j - 1
abbrev pub Until : Course → Course → Course
Until A B i = (j : ℕ) × (i ≤ j) × B j × ((m : ℕ) → i ≤ m → m < j → A m)

-- at every instant j from i on, B, or A at some instant from i to j - 1
abbrev pub Release : Course → Course → Course
Release A B i = (j : ℕ) → i ≤ j → B j ⊎ ((m : ℕ) × (i ≤ m) × (m < j) × A m)

-- A at some instant, or at every instant, from i to i + t
abbrev pub Within : Course → ℕ → Course
Within A t i = (j : ℕ) × (i ≤ j) × (j ≤ i + t) × A j

abbrev pub Throughout : Course → ℕ → Course
Throughout A t i = (j : ℕ) → i ≤ j → j ≤ i + t → A j

-- B at some instant j up to i, with A at every instant from j + 1 to i
abbrev pub Since : Course → Course → Course
Since A B i = (j : ℕ) × (j ≤ i) × B j × ((m : ℕ) → j < m → m ≤ i → A m)

-- at every instant j up to i, B, or A at some instant from j + 1 to i
abbrev pub Trigger : Course → Course → Course
Trigger A B i = (j : ℕ) → j ≤ i → B j ⊎ ((m : ℕ) × (j < m) × (m ≤ i) × A m)

-- there is an instant i - t, and A is true at it
abbrev pub Ago : Course → ℕ → Course
Ago A t i = (t ≤ i) × A (i - t)

-- A at some instant, or at every instant, from max(0, i - t) to i
abbrev pub Lately : Course → ℕ → Course
Lately A t i = (j : ℕ) × (i - t ≤ j) × (j ≤ i) × A j

abbrev pub Steadily : Course → ℕ → Course
Steadily A t i = (j : ℕ) → i - t ≤ j → j ≤ i → A j

-- the formula is true at instant i of the word w
abbrev pub Sat : Word → Formula → Course
Sat w (signal a) i = w i a ≡ true
Sat w (negation f) i = Sat w f i → ⊥
Sat w (conjunction f g) i = Sat w f i × Sat w g i
Sat w (disjunction f g) i = Sat w f i ⊎ Sat w g i
Sat w (next f) i = Sat w f (suc i)
Sat w (until f g) i = Until (λ j. Sat w f j) (λ j. Sat w g j) i
Sat w (release f g) i = Release (λ j. Sat w f j) (λ j. Sat w g j) i
Sat w (after f t) i = Sat w f (i + t)
Sat w (within f t) i = Within (λ j. Sat w f j) t i
Sat w (throughout f t) i = Throughout (λ j. Sat w f j) t i
Sat w (previous f) i = (0 < i) × Sat w f (i - 1)
Sat w (weak_previous f) i = (i ≡ 0) ⊎ Sat w f (i - 1)
Sat w (since f g) i = Since (λ j. Sat w f j) (λ j. Sat w g j) i
Sat w (trigger f g) i = Trigger (λ j. Sat w f j) (λ j. Sat w g j) i
Sat w (ago f t) i = Ago (λ j. Sat w f j) t i
Sat w (lately f t) i = Lately (λ j. Sat w f j) t i
Sat w (steadily f t) i = Steadily (λ j. Sat w f j) t i
