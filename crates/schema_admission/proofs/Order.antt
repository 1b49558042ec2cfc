-- Four numbers as one, the first of which counts most.
use Rattle.std.proofs.Common.{ℕ, suc, ◌+◌, ◌*◌, ◌<◌, ◌≤◌, ◌≡◌, arith}
use Rattle.std.proofs.Math.Nat.{mul-le-mul_right}

-- a, then b at most n
abbrev digit : ℕ → ℕ → ℕ → ℕ
digit n a b = a * suc n + b

digit-first : (n a b a' b' : ℕ) → a' < a → b' ≤ n → digit n a' b' < digit n a b
digit-first n a b a' b' h k = let e : suc a' * suc n ≤ a * suc n = mul-le-mul_right (suc n) (omega arith) in omega (arith, e)

digit-second : (n a b a' b' : ℕ) → a' ≤ a → b' < b → digit n a' b' < digit n a b
digit-second n a b a' b' h k = let e : a' * suc n ≤ a * suc n = mul-le-mul_right (suc n) h in omega (arith, e)

digit-le : (n a b a' b' : ℕ) → a' ≤ a → b' ≤ b → digit n a' b' ≤ digit n a b
digit-le n a b a' b' h k = let e : a' * suc n ≤ a * suc n = mul-le-mul_right (suc n) h in omega (arith, e)

along : {x t u : ℕ} → u ≡ t → x < u → x < t
along e h = omega (arith, h, e)

-- y at most l, z at most b, k at most 7
unfoldable pub pack : ℕ → ℕ → ℕ → ℕ → ℕ → ℕ → ℕ
pack l b x y z k = digit 7 (digit b (digit l x y) z) k

pub by_value : (l b x y z k x' y' z' k' t : ℕ) → pack l b x y z k ≡ t → x' < x → y' ≤ l → z' ≤ b → k' ≤ 7 → pack l b x' y' z' k' < t
unfolding pack
by_value l b x y z k x' y' z' k' t e h yl zb kr =
    along e (digit-first 7 _ k _ k' (digit-first b _ z _ z' (digit-first l x y x' y' h yl) zb) kr)

pub by_references : (l b x y z k x' y' z' k' t : ℕ) → pack l b x y z k ≡ t → x' ≤ x → y' < y → z' ≤ b → k' ≤ 7 → pack l b x' y' z' k' < t
unfolding pack
by_references l b x y z k x' y' z' k' t e h yl zb kr =
    along e (digit-first 7 _ k _ k' (digit-first b _ z _ z' (digit-second l x y x' y' h yl) zb) kr)

pub by_schema : (l b x y z k x' y' z' k' t : ℕ) → pack l b x y z k ≡ t → x' ≤ x → y' ≤ y → z' < z → k' ≤ 7 → pack l b x' y' z' k' < t
unfolding pack
by_schema l b x y z k x' y' z' k' t e h yl zb kr =
    along e (digit-first 7 _ k _ k' (digit-second b _ z _ z' (digit-le l x y x' y' h yl) zb) kr)

pub by_rank : (l b x y z k x' y' z' k' t : ℕ) → pack l b x y z k ≡ t → x' ≤ x → y' ≤ y → z' ≤ z → k' < k → pack l b x' y' z' k' < t
unfolding pack
by_rank l b x y z k x' y' z' k' t e h yl zb kr =
    along e (digit-second 7 _ k _ k' (digit-le b _ z _ z' (digit-le l x y x' y' h yl) zb) kr)
