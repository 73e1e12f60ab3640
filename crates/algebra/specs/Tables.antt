-- Lists made by a rule, and what is counted over them.
use Rattle.std.specs.Prelude.{Bool, true, false, ◌&&◌, List, [], ◌∷◌, ℕ, zero, suc, ◌+◌}

-- f i, f (i + 1), .., n entries
unfoldable pub tab_from {ℓ} : {A : Type ℓ} → ℕ → ℕ → (ℕ → A) → List A
tab_from i zero f = []
tab_from i (suc n) f = f i ∷ tab_from (suc i) n f

-- f 0, f 1, .., f (n − 1)
unfoldable pub tab {ℓ} : {A : Type ℓ} → ℕ → (ℕ → A) → List A
tab n f = tab_from 0 n f

-- one for true
abbrev pub num : Bool → ℕ
num true = 1
num false = 0

-- how many entries are true
unfoldable pub ones : List Bool → ℕ
ones [] = 0
ones (b ∷ w) = num b + ones w

unfoldable pub sum : List ℕ → ℕ
sum [] = 0
sum (x ∷ xs) = x + sum xs

-- how many i below n pass the test
abbrev pub count : ℕ → (ℕ → Bool) → ℕ
count n p = ones (tab n p)

-- every i below n passes the test
unfoldable pub all_below : ℕ → (ℕ → Bool) → Bool
all_below zero p = true
all_below (suc n) p = p n && all_below n p

-- f 0 + f 1 + .. + f (n − 1)
abbrev pub total : ℕ → (ℕ → ℕ) → ℕ
total n f = sum (tab n f)
