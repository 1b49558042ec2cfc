-- Writes one after the other, where the bytes are told and where they aren't.
use Rattle.std.proofs.Common.{◌≡◌, ℕ, ◌+◌, ◌-◌, List, ◌++◌, Some, None, length, take, drop, ap, sym, ◌∙◌, subst, append_assoc, take-append-drop}
use Rattle.std.proofs.Math.Seq.{take-add}
use Rattle.std.proofs.lemmas.List.{take_rest}
use Rattle.std.specs.declared.option.Option.{Option}
use Rattle.std.specs.Option.{option_map}
use Rattle.run_io.specs.Bytes.{Appends, AppendsPrefix}

pub appends_more : (a b c : Option (List ℕ)) (p q : List ℕ) → Appends a b p → Appends b c q → Appends a c (p ++ q)
appends_more None b c p q e f = f ∙ ap (option_map (λ held. held ++ q)) e
appends_more (Some x) b c p q e f = f ∙ ap (option_map (λ held. held ++ q)) e ∙ ap Some (append_assoc x p q)

-- a front of the bytes was appended, and then nothing
pub front_appended : (a b c : Option (List ℕ)) (n : ℕ) (bs : List ℕ) → Appends a b (take n bs) → c ≡ b → AppendsPrefix a c bs
front_appended a b c n bs e f = (take n bs, (drop n bs, sym (take-append-drop n bs)), f ∙ e)

-- a front of the bytes was appended, and then a front of the rest of them
pub front_grown : (a b c : Option (List ℕ)) (n m : ℕ) (bs : List ℕ) → Appends a b (take n bs)
    → Appends b c (take m (take (length bs - n) (drop n bs))) → Appends a c (take (n + m) bs)
front_grown a b c n m bs e f =
    let whole : take (n + m) bs ≡ take n bs ++ take m (take (length bs - n) (drop n bs)) =
    take-add n m bs ∙ ap (λ l. take n bs ++ take m l) (sym (take_rest bs n)) in
    subst (Appends a c) (sym whole) (appends_more a b c _ _ e f)
