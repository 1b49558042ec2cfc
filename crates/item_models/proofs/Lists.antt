-- Lists that move from one to another, item by item.
use Rattle.std.proofs.Common.{◌≡◌, List, [], ◌∷◌, ◌++◌, map, Option, Some, None, option_map, is_some, refl, sym, ap, ◌∙◌, append_assoc}

map_after : {X Y : Type 0} (f : X → Y) (xs ys : List X) → map f (xs ++ ys) ≡ map f xs ++ map f ys
map_after f [] ys = refl
map_after f (x ∷ xs) ys = ap (λ zs. f x ∷ zs) (map_after f xs ys)

after_none : {X : Type 0} (xs : List X) → xs ++ [] ≡ xs
after_none [] = refl
after_none (x ∷ xs) = ap (λ ys. x ∷ ys) (after_none xs)

pub moved : {X Y Z : Type 0} (f : X → Z) (g : Y → Z) (old new : List X) (x : X) (left rest : List Y) (y : Y) (w : List Z)
    → map f old ++ map g left ≡ w → left ≡ y ∷ rest → new ≡ old ++ (x ∷ []) → f x ≡ g y → map f new ++ map g rest ≡ w
moved f g old new x left rest y w was e n h =
    ap (λ xs. map f xs ++ map g rest) n
    ∙ ap (λ zs. zs ++ map g rest) (map_after f old (x ∷ []))
    ∙ append_assoc (map f old) (f x ∷ []) (map g rest)
    ∙ ap (λ z. map f old ++ (z ∷ map g rest)) h
    ∙ ap (λ ys. map f old ++ map g ys) (sym e)
    ∙ was

pub all_moved : {X Y Z : Type 0} (f : X → Z) (g : Y → Z) (done : List X) (left : List Y) (w : List Z) → map f done ++ map g left ≡ w → left ≡ [] → map f done ≡ w
all_moved f g done left w was e = sym (after_none (map f done)) ∙ ap (λ ys. map f done ++ map g ys) (sym e) ∙ was

pub mapped_twice : {X Y Z : Type 0} (f : X → Y) (g : Y → Z) (xs : List X) → map g (map f xs) ≡ map (λ x. g (f x)) xs
mapped_twice f g [] = refl
mapped_twice f g (x ∷ xs) = ap (λ zs. g (f x) ∷ zs) (mapped_twice f g xs)

-- what is seen of an option is there where it is
pub some_seen : {X Y : Type 0} (f : X → Y) (o : Option X) (p : Option Y) → option_map f o ≡ p → is_some o ≡ is_some p
some_seen f None p e = ap is_some e
some_seen f (Some x) p e = ap is_some e
