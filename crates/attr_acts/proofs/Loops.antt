-- Loops over what does something, one after the other.
use Rattle.std.proofs.Common.{◌≡◌, ℕ, suc, ◌+◌, ◌<◌, List, [], ◌∷◌, ◌++◌, ◌||◌, Bool, true, false, Some, None, map, drop, length, get_or, drop-cons, refl, ap, sym, ◌∙◌, append_assoc, append-nil, arith}
use Rattle.std.specs.Prelude.{Option, is_some}
use Rattle.std.specs.List.{list_any}
use Rattle.attr_defs.specs.Acts.{ActD}
use Rattle.attr_defs.specs.Metas.{PartD}
use Rattle.attr_defs.specs.Owners.{OwnerD}
use Rattle.attr_defs.specs.Rows.{meta_step, unless_ended, acts_of}
use Rattle.attr_defs.specs.Texts.{Lexing}

-- the next of mapped elements, and the others
pub mapped_drop : {X Y : Type 0} → (f : X → Y) (xs : List X) (i : ℕ) (x : X) → i < length xs → x ≡ get_or xs i x → map f (drop i xs) ≡ f x ∷ map f (drop (i + 1) xs)
mapped_drop f xs i x h e =
    ap (map f) (drop-cons xs i x h) ∙ ap (λ y. f y ∷ map f (drop (suc i) xs)) (sym e) ∙ ap (λ n. f x ∷ map f (drop n xs)) (let k : suc i ≡ i + 1 = omega arith in k)

-- one more is done
pub more_acts : {M : Type 0} → (f : List M → List ActD) (g : M → List ActD) → ((m : M) (ms : List M) → f (m ∷ ms) ≡ g m ++ f ms)
    → (now new whole : List ActD) (m : M) (ms all : List M) → now ++ f all ≡ whole → all ≡ m ∷ ms → new ≡ now ++ g m → new ++ f ms ≡ whole
more_acts f g step now new whole m ms all h e d =
    ap (λ l. l ++ f ms) d ∙ append_assoc now (g m) (f ms) ∙ ap (λ l. now ++ l) (sym (step m ms)) ∙ ap (λ us. now ++ f us) (sym e) ∙ h

unended : {A : Type 0} → (o : Option A) (acts : List ActD) → is_some o ≡ true → unless_ended o acts ≡ acts
unended None acts h = cc
unended (Some x) acts h = refl

ended : {A : Type 0} → (o : Option A) (acts : List ActD) → is_some o ≡ false → unless_ended o acts ≡ []
ended None acts h = refl
ended (Some x) acts h = cc

-- a meta more, where reading goes on
pub metas_on : (lexing : Lexing) (o : OwnerD) (now new whole : List ActD) (m : PartD) (ms all : List PartD) (b : Bool) → now ++ acts_of lexing o all ≡ whole → all ≡ m ∷ ms → new ≡ now ++ (meta_step lexing o m).acts → b ≡ is_some (meta_step lexing o m).value → b ≡ true → new ++ acts_of lexing o ms ≡ whole
metas_on lexing o now new whole m ms all b h e d g t =
    let a = (meta_step lexing o m).acts in
    let k : a ++ acts_of lexing o ms ≡ acts_of lexing o all = ap (λ l. a ++ l) (sym (unended (meta_step lexing o m).value (acts_of lexing o ms) (sym g ∙ t))) ∙ ap (acts_of lexing o) (sym e) in
    ap (λ l. l ++ acts_of lexing o ms) d ∙ append_assoc now a (acts_of lexing o ms) ∙ ap (λ l. now ++ l) k ∙ h

-- and where it ends
pub metas_end : (lexing : Lexing) (o : OwnerD) (now new whole : List ActD) (m : PartD) (ms all : List PartD) (b : Bool) → now ++ acts_of lexing o all ≡ whole → all ≡ m ∷ ms → new ≡ now ++ (meta_step lexing o m).acts → b ≡ is_some (meta_step lexing o m).value → b ≡ false → new ≡ whole
metas_end lexing o now new whole m ms all b h e d g t =
    let a = (meta_step lexing o m).acts in
    let k : a ≡ acts_of lexing o all = sym (append-nil a) ∙ ap (λ l. a ++ l) (sym (ended (meta_step lexing o m).value (acts_of lexing o ms) (sym g ∙ t))) ∙ ap (acts_of lexing o) (sym e) in
    d ∙ ap (λ l. now ++ l) k ∙ h

-- one that passes a test is among the others, and one that doesn't changes nothing
pub any_here : {X Y : Type 0} → (p : Y → Bool) (f : X → Y) (xs : List X) (i : ℕ) (x : X) → i < length xs → x ≡ get_or xs i x → p (f x) ≡ true → list_any p (map f (drop i xs)) ≡ true
any_here p f xs i x h e t = ap (list_any p) (mapped_drop f xs i x h e) ∙ ap (λ b. b || list_any p (map f (drop (i + 1) xs))) t

pub any_later : {X Y : Type 0} → (p : Y → Bool) (f : X → Y) (xs : List X) (i : ℕ) (x : X) → i < length xs → x ≡ get_or xs i x → p (f x) ≡ false → list_any p (map f (drop i xs)) ≡ list_any p (map f (drop (i + 1) xs))
any_later p f xs i x h e t = ap (list_any p) (mapped_drop f xs i x h e) ∙ ap (λ b. b || list_any p (map f (drop (i + 1) xs))) t
