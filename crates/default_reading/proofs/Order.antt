-- Four numbers as one, the first of which counts most; the bases of the others grow with them.
use Rattle.std.proofs.Common.{◌≡◌, ℕ, zero, suc, ◌+◌, ◌*◌, ◌<◌, ◌≤◌, arith}
use Rattle.std.proofs.Math.Nat.{mul-le-mul_right, mul-le-mul_left}

-- ---- the greater of two

abbrev pub most : ℕ → ℕ → ℕ
most zero b = b
most (suc a) zero = suc a
most (suc a) (suc b) = suc (most a b)

pub most-first : (a b : ℕ) → a ≤ most a b
most-first zero b = omega arith
most-first (suc a) zero = omega arith
most-first (suc a) (suc b) = omega (arith, most-first a b)

pub most-second : (a b : ℕ) → b ≤ most a b
most-second zero b = omega arith
most-second (suc a) zero = omega arith
most-second (suc a) (suc b) = omega (arith, most-second a b)

pub most-least : (a b c : ℕ) → a ≤ c → b ≤ c → most a b ≤ c
most-least zero b c h k = k
most-least (suc a) zero c h k = h
most-least (suc a) (suc b) zero h k = absurd (omega (arith, h))
most-least (suc a) (suc b) (suc c) h k = omega (arith, most-least a b c (omega (arith, h)) (omega (arith, k)))

-- ---- digits

-- a, then b at most n
abbrev digit : ℕ → ℕ → ℕ → ℕ
digit n a b = a * suc n + b

digit-first : (n n' a b a' b' : ℕ) → a' < a → b' ≤ n' → n' ≤ n → digit n' a' b' < digit n a b
digit-first n n' a b a' b' h k m =
    let e : suc a' * suc n ≤ a * suc n = mul-le-mul_right (suc n) (omega arith) in
    let d : a' * suc n' ≤ a' * suc n = mul-le-mul_left a' (omega arith) in
    omega (arith, e, d)

digit-second : (n n' a b a' b' : ℕ) → a' ≤ a → b' < b → n' ≤ n → digit n' a' b' < digit n a b
digit-second n n' a b a' b' h k m =
    let e : a' * suc n ≤ a * suc n = mul-le-mul_right (suc n) h in
    let d : a' * suc n' ≤ a' * suc n = mul-le-mul_left a' (omega arith) in
    omega (arith, e, d)

digit-le : (n n' a b a' b' : ℕ) → a' ≤ a → b' ≤ b → n' ≤ n → digit n' a' b' ≤ digit n a b
digit-le n n' a b a' b' h k m =
    let e : a' * suc n ≤ a * suc n = mul-le-mul_right (suc n) h in
    let d : a' * suc n' ≤ a' * suc n = mul-le-mul_left a' (omega arith) in
    omega (arith, e, d)

along : {x t u : ℕ} → u ≡ t → x < u → x < t
along e h = omega (arith, h, e)

trees-fit : (d z z' : ℕ) → z' ≤ most z d → most z' d ≤ most z d
trees-fit d z z' h = most-least z' d (most z d) h (most-second z d)

values-fit : (d v z v' z' : ℕ) → v' ≤ most v (most z d) → z' ≤ most z d → most v' (most z' d) ≤ most v (most z d)
values-fit d v z v' z' h k =
    let first = trees-fit d z z' k in
    let second = most-second v (most z d) in
    most-least v' (most z' d) (most v (most z d)) h (omega (arith, first, second))

references-fit : (l y y' : ℕ) → y' ≤ most y l → most y' l ≤ most y l
references-fit l y y' h = most-least y' l (most y l) h (most-second y l)

-- defaults that may still be read, the size of the value, references that may still be followed, and what the tree holds; where the trees of the table hold d,
-- and l references may be followed at a new value
unfoldable pub pack : ℕ → ℕ → ℕ → ℕ → ℕ → ℕ → ℕ
pack d l k v y z = digit (most z d) (digit (most y l) (digit (most v (most z d)) k v) y) z

pub by_default : (d l k v y z k' v' y' z' t : ℕ) → pack d l k v y z ≡ t → k' < k → v' ≤ most z d → y' ≤ l → z' ≤ most z d → pack d l k' v' y' z' < t
unfolding pack
by_default d l k v y z k' v' y' z' t e kk vv yy zz =
    let over = most-second v (most z d) in
    let second = most-second y l in
    along e (digit-first (most z d) (most z' d) _ z _ z'
    (digit-first (most y l) (most y' l) _ y _ y'
    (digit-first (most v (most z d)) (most v' (most z' d)) k v k' v' kk (most-first v' (most z' d)) (values-fit d v z v' z' (omega (arith, vv, over)) zz))
    (most-first y' l) (references-fit l y y' (omega (arith, yy, second))))
    (most-first z' d) (trees-fit d z z' zz))

pub by_value : (d l k v y z k' v' y' z' t : ℕ) → pack d l k v y z ≡ t → k' ≤ k → v' < v → y' ≤ l → z' ≤ most z d → pack d l k' v' y' z' < t
unfolding pack
by_value d l k v y z k' v' y' z' t e kk vv yy zz =
    let over = most-first v (most z d) in
    let second = most-second y l in
    along e (digit-first (most z d) (most z' d) _ z _ z'
    (digit-first (most y l) (most y' l) _ y _ y'
    (digit-second (most v (most z d)) (most v' (most z' d)) k v k' v' kk vv (values-fit d v z v' z' (omega (arith, vv, over)) zz))
    (most-first y' l) (references-fit l y y' (omega (arith, yy, second))))
    (most-first z' d) (trees-fit d z z' zz))

pub by_reference : (d l k v y z k' v' y' z' t : ℕ) → pack d l k v y z ≡ t → k' ≤ k → v' ≤ v → y' < y → z' ≤ most z d → pack d l k' v' y' z' < t
unfolding pack
by_reference d l k v y z k' v' y' z' t e kk vv yy zz =
    let over = most-first v (most z d) in
    let first = most-first y l in
    along e (digit-first (most z d) (most z' d) _ z _ z'
    (digit-second (most y l) (most y' l) _ y _ y'
    (digit-le (most v (most z d)) (most v' (most z' d)) k v k' v' kk vv (values-fit d v z v' z' (omega (arith, vv, over)) zz))
    yy (references-fit l y y' (omega (arith, yy, first))))
    (most-first z' d) (trees-fit d z z' zz))

pub by_tree : (d l k v y z k' v' y' z' t : ℕ) → pack d l k v y z ≡ t → k' ≤ k → v' ≤ v → y' ≤ y → z' < z → pack d l k' v' y' z' < t
unfolding pack
by_tree d l k v y z k' v' y' z' t e kk vv yy zz =
    let over = most-first v (most z d) in
    let first = most-first y l in
    let within = most-first z d in
    let fits : z' ≤ most z d = omega (arith, zz, within) in
    along e (digit-second (most z d) (most z' d) _ z _ z'
    (digit-le (most y l) (most y' l) _ y _ y'
    (digit-le (most v (most z d)) (most v' (most z' d)) k v k' v' kk vv (values-fit d v z v' z' (omega (arith, vv, over)) fits))
    yy (references-fit l y y' (omega (arith, yy, first))))
    zz (trees-fit d z z' fits))
