-- What a result in steps says of each step.
use Rattle.std.proofs.Common.{◌≡◌, List, ◌++◌, ◌&&◌, Bool, true, false, cond, refl}
use Rattle.std.specs.Prelude.{Result, Ok, Err}
use Rattle.syntax_trees.specs.declared.cursor.SyntaxError.{SyntaxError}
use Rattle.syntax_parsers.specs.Answer.{◌>>=◌, with_front}

abbrev pub got : {A : Type 0} → A → Result A SyntaxError
got x = Ok x

pub ok_same : {A : Type 0} → (x y : A) → got x ≡ got y → x ≡ y
ok_same x y e = cc

pub and_true : (a b : Bool) → (a && b) ≡ true → (a ≡ true) × (b ≡ true)
and_true true b e = (refl, e)
and_true false b e = absurd (cc)

pub bind_ok : {A B : Type 0} → (r : Result A SyntaxError) (f : A → Result B SyntaxError) (y : B) → (r >>= f) ≡ Ok y → (x : A) × (r ≡ Ok x) × (f x ≡ Ok y)
bind_ok (Ok x) f y e = (x, refl, e)
bind_ok (Err s) f y e = absurd (cc)

pub cond_ok : {A : Type 0} → (b : Bool) (r : Result A SyntaxError) (s : SyntaxError) (y : A) → cond b r (Err s) ≡ Ok y → (b ≡ true) × (r ≡ Ok y)
cond_ok true r s y e = (refl, e)
cond_ok false r s y e = absurd (cc)

pub front_ok : {A : Type 0} → (xs : List A) (r : Result (List A) SyntaxError) (ys : List A) → with_front xs r ≡ Ok ys → (zs : List A) × (r ≡ Ok zs) × (xs ++ zs ≡ ys)
front_ok xs (Ok zs) ys e = (zs, refl, ok_same (xs ++ zs) ys e)
front_ok xs (Err s) ys e = absurd (cc)
