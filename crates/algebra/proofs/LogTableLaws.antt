-- Tables that pass the tests: every entry is the power that it should be, and a power below the count has one logarithm.
-- Assumes nothing.
use mathlib.Core.Path.{◌≡◌, sym, ap, ◌∙◌}
use mathlib.Core.List.{List, [], ◌∷◌}
use Prim.Native.Nat.{ℕ, zero, suc, ◌+◌, ◌-◌, ◌%◌, ◌^◌, ◌≤◌, ◌<◌}
use native.Mathlib.Decide.{dec_lt}
use native.Mathlib.Omega.{arith}
use lib.Dec.{T, eqb, eqb→eq, ltb→lt}
use lib.ListN.{length, get_or, drop, length-drop, get_or-eq_default}
use lib.Seq.{get_or-drop}
use Rattle.algebra.specs.Register.{iter, turn}
use Rattle.algebra.specs.LogTables.{follows, inverts, Tables}
use Rattle.algebra.proofs.LinearLaws.{T_left, T_right}
use Rattle.algebra.proofs.RegisterLaws.{iter-suc}

module _ (step : ℕ → ℕ) where
  -- a list that follows x begins with it, and its rest follows the next
  first-eq : (x p : ℕ) (ps : List ℕ) → T (follows step x (p ∷ ps)) → x ≡ p
  unfolding follows
  first-eq x p ps h = eqb→eq x p (T_left (eqb x p) (follows step (step p) ps) h)

  rest_follows : (x p : ℕ) (ps : List ℕ) → T (follows step x (p ∷ ps)) → T (follows step (step x) ps)
  unfolding follows
  rest_follows x p ps h = rw (first-eq x p ps h) (T_right (eqb x p) (follows step (step p) ps) h)

  pub follows_at : (x : ℕ) (ps : List ℕ) → T (follows step x ps) → (i : ℕ) → i < length ps → get_or ps i 0 ≡ iter i step x
  unfolding iter
  follows_at x [] h i hi = absurd (omega arith)
  follows_at x (p ∷ ps) h zero hi = sym (first-eq x p ps h)
  follows_at x (p ∷ ps) h (suc i) hi = follows_at (step x) ps (rest_follows x p ps h) i (omega arith) ∙ sym (iter-suc i step x)

inverts_at : (xs : List ℕ) (n : ℕ) (ls : List ℕ) → T (inverts xs n ls) → (i : ℕ) → i < length ls → get_or xs (get_or ls i 0) 0 ≡ n + i
unfolding inverts
inverts_at xs n [] h i hi = absurd (omega arith)
inverts_at xs n (l ∷ ls) h zero hi =
    eqb→eq (get_or xs l 0) n (T_left (eqb (get_or xs l 0) n) (inverts xs (suc n) ls) h) ∙ omega arith
inverts_at xs n (l ∷ ls) h (suc i) hi =
    inverts_at xs (suc n) ls (T_right (eqb (get_or xs l 0) n) (inverts xs (suc n) ls) h) i (omega arith) ∙ omega arith

module _ (k c : ℕ) (powers logs : List ℕ) (t : Tables k c powers logs) where
  pub tables_small : c < 2 ^ suc k
  tables_small = ltb→lt c (2 ^ suc k) t.small

  pub tables_odd : c % 2 ≡ 1
  tables_odd = eqb→eq (c % 2) 1 t.odd

  pub count_powers : suc (length powers) ≡ 2 ^ suc k
  count_powers = eqb→eq (suc (length powers)) (2 ^ suc k) t.count

  pub count_logs-eq : length logs ≡ 2 ^ suc k
  count_logs-eq = eqb→eq (length logs) (2 ^ suc k) t.count_logs

  pub powers_at : (i : ℕ) → i < 2 ^ suc k - 1 → get_or powers i 0 ≡ iter i (turn k c) 1
  powers_at i h = follows_at (turn k c) 1 powers t.chain i (omega (arith, count_powers))

  -- one step past the last power is 1 again
  pub round : iter (2 ^ suc k - 1) (turn k c) 1 ≡ 1
  round =
      let e : 2 ^ suc k - 1 ≡ length powers = omega (arith, count_powers) in
      ap (λ (n : ℕ). iter n (turn k c) 1) e ∙ eqb→eq (iter (length powers) (turn k c) 1) 1 t.closes

  pub powers_logs : (x : ℕ) → 1 ≤ x → x < 2 ^ suc k → get_or powers (get_or logs x 0) 0 ≡ x
  powers_logs x h1 h =
      let l : x - 1 < length (drop 1 logs) = omega (arith, length-drop 1 logs, count_logs-eq) in
      let e : 1 + (x - 1) ≡ x = omega arith in
      let g : get_or (drop 1 logs) (x - 1) 0 ≡ get_or logs x 0 = get_or-drop 1 logs (x - 1) 0 ∙ ap (λ (j : ℕ). get_or logs j 0) e in
      ap (λ (j : ℕ). get_or powers j 0) (sym g) ∙ inverts_at powers 1 (drop 1 logs) t.power_of_log (x - 1) l ∙ e

  -- no test of its own: past the end the table of powers says 0
  pub logs-lt : (x : ℕ) → 1 ≤ x → x < 2 ^ suc k → get_or logs x 0 < 2 ^ suc k - 1
  logs-lt x h1 h = go (dec_lt (get_or logs x 0) (length powers))
    where
      go : Dec (get_or logs x 0 < length powers) → get_or logs x 0 < 2 ^ suc k - 1
      go (yes s) = omega (arith, count_powers)
      go (no n) =
          let o : length powers ≤ get_or logs x 0 = omega arith in
          let z : get_or powers (get_or logs x 0) 0 ≡ 0 = get_or-eq_default powers 0 o in
          omega (arith, powers_logs x h1 h)

  pub logs_powers : (i : ℕ) → i < 2 ^ suc k - 1 → get_or logs (get_or powers i 0) 0 ≡ i
  logs_powers i h = inverts_at logs 0 powers t.log_of_power i (omega (arith, count_powers)) ∙ omega arith

  -- every number but 0 is the power that its logarithm says
  pub log_power : (x : ℕ) → 1 ≤ x → x < 2 ^ suc k → iter (get_or logs x 0) (turn k c) 1 ≡ x
  log_power x h1 h = sym (powers_at (get_or logs x 0) (logs-lt x h1 h)) ∙ powers_logs x h1 h

  -- a power below the count has one logarithm
  pub power_log : (i : ℕ) → i < 2 ^ suc k - 1 → get_or logs (iter i (turn k c) 1) 0 ≡ i
  power_log i h = ap (λ (x : ℕ). get_or logs x 0) (sym (powers_at i h)) ∙ logs_powers i h

  pub power_injective :
      (i j : ℕ) → i < 2 ^ suc k - 1 → j < 2 ^ suc k - 1 → iter i (turn k c) 1 ≡ iter j (turn k c) 1 → i ≡ j
  power_injective i j hi hj e = sym (power_log i hi) ∙ ap (λ (x : ℕ). get_or logs x 0) e ∙ power_log j hj
