-- Four numbers as one, the first of which counts most; the bases of the others grow with them.
use Rattle.std.proofs.Common.{ℕ, zero, suc, ◌+◌, ◌*◌, ◌<◌, ◌≤◌, ◌≡◌, arith}
use Rattle.std.proofs.Math.Nat.{mul-le-mul_right, mul-le-mul_left}

-- ---- the greater of two

abbrev pub most : ℕ → ℕ → ℕ
most zero b = b
most (suc a) zero = suc a
most (suc a) (suc b) = suc (most a b)

most-first : (a b : ℕ) → a ≤ most a b
most-first zero b = omega arith
most-first (suc a) zero = omega arith
most-first (suc a) (suc b) = omega (arith, most-first a b)

most-second : (a b : ℕ) → b ≤ most a b
most-second zero b = omega arith
most-second (suc a) zero = omega arith
most-second (suc a) (suc b) = omega (arith, most-second a b)

most-least : (a b c : ℕ) → a ≤ c → b ≤ c → most a b ≤ c
most-least zero b c h k = k
most-least (suc a) zero c h k = h
most-least (suc a) (suc b) zero h k = absurd (omega (arith, h))
most-least (suc a) (suc b) (suc c) h k = omega (arith, most-least a b c (omega (arith, h)) (omega (arith, k)))

most-rises : (a b c : ℕ) → a ≤ b → most a c ≤ most b c
most-rises a b c h = most-least a c (most b c) (omega (arith, h, most-first b c)) (most-second b c)

most-inside : (a b c : ℕ) → a ≤ c → most a c ≤ most b c
most-inside a b c h = most-least a c (most b c) (omega (arith, h, most-second b c)) (most-second b c)

-- ---- digits

-- a, then b at most n
abbrev digit : ℕ → ℕ → ℕ → ℕ
digit n a b = a * suc n + b

digit-first : (n n' a b a' b' : ℕ) → a' < a → b' ≤ n' → n' ≤ n → digit n' a' b' < digit n a b
digit-first n n' a b a' b' h k m =
    let e : suc a' * suc n ≤ a * suc n = mul-le-mul_right (suc n) (omega arith) in
    let d : a' * suc n' ≤ a' * suc n = mul-le-mul_left a' (omega arith) in
    omega (arith, e, d)

digit-second : (n n' a b a' b' : ℕ) → a' ≤ a → b' < b → n' ≤ n → digit n' a' b' < digit n a b
digit-second n n' a b a' b' h k m =
    let e : a' * suc n ≤ a * suc n = mul-le-mul_right (suc n) h in
    let d : a' * suc n' ≤ a' * suc n = mul-le-mul_left a' (omega arith) in
    omega (arith, e, d)

digit-le : (n n' a b a' b' : ℕ) → a' ≤ a → b' ≤ b → n' ≤ n → digit n' a' b' ≤ digit n a b
digit-le n n' a b a' b' h k m =
    let e : a' * suc n ≤ a * suc n = mul-le-mul_right (suc n) h in
    let d : a' * suc n' ≤ a' * suc n = mul-le-mul_left a' (omega arith) in
    omega (arith, e, d)

along : {x t u : ℕ} → u ≡ t → x < u → x < t
along e h = omega (arith, h, e)

-- defaults that may still be entered, the size of the value, items that may still be entered, and a rank below 32
unfoldable pub pack : ℕ → ℕ → ℕ → ℕ → ℕ → ℕ → ℕ
pack d l k x y r = digit 31 (digit (most y l) (digit (most x d) k x) y) r

pub by_default : (d l k x y r k' x' y' r' t : ℕ) → pack d l k x y r ≡ t → k' < k → x' ≤ d → y' ≤ l → r' ≤ 31 → pack d l k' x' y' r' < t
unfolding pack
by_default d l k x y r k' x' y' r' t e kk xd yl rr =
    along e (digit-first 31 31 _ r _ r'
    (digit-first (most y l) (most y' l) _ y _ y'
    (digit-first (most x d) (most x' d) k x k' x' kk (most-first x' d) (most-inside x' x d xd))
    (most-first y' l) (most-inside y' y l yl))
    rr (omega arith))

pub by_value : (d l k x y r k' x' y' r' t : ℕ) → pack d l k x y r ≡ t → k' ≤ k → x' < x → y' ≤ l → r' ≤ 31 → pack d l k' x' y' r' < t
unfolding pack
by_value d l k x y r k' x' y' r' t e kk xx yl rr =
    let le : x' ≤ x = omega (arith, xx) in
    along e (digit-first 31 31 _ r _ r'
    (digit-first (most y l) (most y' l) _ y _ y'
    (digit-second (most x d) (most x' d) k x k' x' kk xx (most-rises x' x d le))
    (most-first y' l) (most-inside y' y l yl))
    rr (omega arith))

pub by_item : (d l k x y r k' x' y' r' t : ℕ) → pack d l k x y r ≡ t → k' ≤ k → x' ≤ x → y' < y → r' ≤ 31 → pack d l k' x' y' r' < t
unfolding pack
by_item d l k x y r k' x' y' r' t e kk xx yy rr =
    let le : y' ≤ y = omega (arith, yy) in
    along e (digit-first 31 31 _ r _ r'
    (digit-second (most y l) (most y' l) _ y _ y'
    (digit-le (most x d) (most x' d) k x k' x' kk xx (most-rises x' x d xx))
    yy (most-rises y' y l le))
    rr (omega arith))

pub by_rank : (d l k x y r k' x' y' r' t : ℕ) → pack d l k x y r ≡ t → k' ≤ k → x' ≤ x → y' ≤ y → r' < r → pack d l k' x' y' r' < t
unfolding pack
by_rank d l k x y r k' x' y' r' t e kk xx yy rr =
    along e (digit-second 31 31 _ r _ r'
    (digit-le (most y l) (most y' l) _ y _ y'
    (digit-le (most x d) (most x' d) k x k' x' kk xx (most-rises x' x d xx))
    yy (most-rises y' y l yy))
    rr (omega arith))
