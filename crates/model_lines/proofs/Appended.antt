-- Writes one after the other, and fronts of what was to be written.
use Rattle.std.proofs.Common.{◌≡◌, ℕ, List, [], ◌++◌, Some, None, refl, ap, sym, ◌∙◌, subst, append_assoc}
use Rattle.std.proofs.lemmas.List.{append-nil}
use Rattle.std.specs.declared.option.Option.{Option}
use Rattle.run_io.specs.Bytes.{Appends, AppendsPrefix, IsPrefix, Takes}
use Rattle.run_io.proofs.Known.{appends_more}
use Rattle.std.specs.Option.{option_map}

pub appends_none : (a : Option (List ℕ)) → Appends a a []
appends_none None = refl
appends_none (Some l) = ap Some (sym (append-nil l))

pub front_more : (a b c : Option (List ℕ)) (p q : List ℕ) → Appends a b p → AppendsPrefix b c q → AppendsPrefix a c (p ++ q)
front_more a b c p q e f =
    (p ++ f.0, (f.1.0, ap (λ l. p ++ l) f.1.1 ∙ sym (append_assoc p f.0 f.1.0)), appends_more a b c p f.0 e f.2)

pub front_wider : (a c : Option (List ℕ)) (p q : List ℕ) → AppendsPrefix a c p → AppendsPrefix a c (p ++ q)
front_wider a c p q f = (f.0, (f.1.0 ++ q, ap (λ l. l ++ q) f.1.1 ∙ append_assoc f.0 f.1.0 q), f.2)

pub whole_front : (a c : Option (List ℕ)) (p q : List ℕ) → Appends a c p → AppendsPrefix a c (p ++ q)
whole_front a c p q e = (p, (q, refl), e)

-- nothing more was written
pub front_still : (a b c : Option (List ℕ)) (p q : List ℕ) → Appends a b p → c ≡ b → AppendsPrefix a c (p ++ q)
front_still a b c p q e f = whole_front a c p q (f ∙ e)

pub takes_more : (a b c : Option (List ℕ)) (p q : List ℕ) → Takes a b p → Takes b c q → Takes a c (p ++ q)
takes_more a b None p q e f = e ∙ ap (option_map (λ rest. p ++ rest)) f
takes_more a b (Some l) p q e f = e ∙ ap (option_map (λ rest. p ++ rest)) f ∙ ap Some (sym (append_assoc p q l))
