-- Faults that are told again, and faults that a call comes to.
use Rattle.std.proofs.Common.{◌≡◌, ◌⊎◌, inl, inr, List, [], ◌∷◌, Option, None, Some, option_map, refl, sym, ap, subst, ◌∙◌}
use Rattle.schema_tree.specs.Fault.{FaultD, memory}
use Rattle.convert_document.specs.Unread.{At, first_kept}
use Rattle.typify_convert.specs.Kept.{listed_view}
use Rattle.typify_convert.specs.Space.{History, Keeps}
use Rattle.typify_convert.specs.Refused.{IsRefusal, IsUnread, IsOrMemory, IsFirstUnread}
use Rattle.typify_convert.specs.declared.keeping.Held.{Held}

-- whatever cause it comes to
pub told_again : (before : Option FaultD) (C : Type 0) (f : FaultD) → (f ≡ memory) ⊎ (before ≡ Some f) → (f ≡ memory) ⊎ ((before ≡ Some f) ⊎ ((before ≡ None) × C))
told_again before C f (inl m) = inl m
told_again before C f (inr e) = inr (inl e)

pub kept_cause : (before : Option FaultD) (Cause : FaultD → Type 0) (f g : FaultD) → before ≡ None → Cause f → IsOrMemory f g → IsRefusal before Cause g
kept_cause before Cause f g e c (inl m) = inl m
kept_cause before Cause f g e c (inr w) = inr (inr (e, subst Cause (sym w) c))

-- ---- listed values

first_is : (us : List At) (at : At) → first_kept None us ≡ Some at → (more : List At) × (us ≡ at ∷ more)
first_is [] at e = absurd (cc)
first_is (u ∷ us) at e = (us, (let same : u ≡ at = cc in ap (λ (z : At). z ∷ us) same))

none_is : (us : List At) → first_kept None us ≡ None → us ≡ []
none_is [] e = refl
none_is (u ∷ us) e = absurd (cc)

pub finish_cause : (before : Option FaultD) (k : Held) (f : FaultD) → before ≡ None → (f ≡ memory) ⊎ IsFirstUnread (option_map listed_view k.unread) f
    → IsRefusal before (λ (g : FaultD). (h : History) → Keeps k h → IsUnread h.unread g) f
finish_cause before k f e (inl m) = inl m
finish_cause before k f e (inr t) = inr (inr (e, λ h keeps. let x = first_is h.unread t.0 (sym keeps.unread ∙ t.1) in (t.0, x.0, x.1, t.2)))

pub read_so : (k : Held) (h : History) → Keeps k h → option_map listed_view k.unread ≡ None → h.unread ≡ []
read_so k h keeps e = none_is h.unread (sym keeps.unread ∙ e)
