-- Names that come twice.
use Rattle.std.proofs.Common.{◌≡◌, ℕ, suc, ◌+◌, ◌≤◌, ◌<◌, List, [], ◌∷◌, filter, drop, length, get_or, cond, Bool, true, false, not, ◌&&◌, ◌||◌, if◌then◌else◌, bytes_eq, string_bytes, refl, sym, ap, ◌∙◌}
use Rattle.std.proofs.lemmas.List.{drop_all}
use Rattle.std.proofs.lemmas.Slice.Eq.{bytes_eq-Decides}
use Rattle.name_tables.specs.Names.{Names, entered, put_in_order}
use Rattle.model_defs.specs.Model.{ContainerModel}
use Rattle.value_models.specs.declared.container.Container.{Container}
use Rattle.value_models.specs.ContainerView.{container_view, containers_view}
use Rattle.describe_defs.specs.Plain.{has_none}
use Rattle.describe_defs.specs.NotPlain.{has_two, names_of, comes_twice}
use Rattle.plain_tables.specs.Apart.{is_entered}
use Rattle.plain_tables.specs.Twice.{AreTwice, is_counted, AreCounted}
use Rattle.plain_tables.proofs.Once.{entered_finds, next}

same_entered : (m n : List ℕ) (t : Names) → bytes_eq m n ≡ true → is_entered n t ≡ true → is_entered m t ≡ true
same_entered m n t e h = ap (λ k. is_entered k t) ((bytes_eq-Decides m n).0 e) ∙ h

entered_any : (m n : List ℕ) (t : Names) → is_entered m (entered n 0 t) ≡ (bytes_eq m n || is_entered m t)
entered_any m n t = by (is_entered n t) refl
  where
    joined : (b : Bool) → (b ≡ true → is_entered m t ≡ true) → is_entered m t ≡ (b || is_entered m t)
    joined true h = h refl
    joined false h = refl

    by : (b : Bool) → is_entered n t ≡ b → is_entered m (entered n 0 t) ≡ (bytes_eq m n || is_entered m t)
    by true h = ap (λ b. is_entered m (if b then t else put_in_order n 0 t)) h ∙ joined (bytes_eq m n) (λ e. same_entered m n t e h)
    by false h = entered_finds m n 0 t h

-- one name more: b says that it is the one asked about
step : (b s a : Bool) (x : List ℕ) (ns : List (List ℕ)) → is_counted s a (cond b (x ∷ ns) ns) ≡ is_counted (b || s) (if b && s then true else a) ns
step false s a x ns = refl
step true true true x ns = refl
step true true false x ns = refl
step true false true x ns = refl
step true false false x [] = refl
step true false false x (n ∷ ns) = refl

again_is : (m n : List ℕ) (seen again : Names) → is_entered m (if is_entered n seen then entered n 0 again else again) ≡ (if bytes_eq m n && is_entered m seen then true else is_entered m again)
again_is m n seen again = by (is_entered n seen) refl
  where
    when : (b s : Bool) → (b ≡ true → s ≡ true) → (b || is_entered m again) ≡ (if b && s then true else is_entered m again)
    when true s h = ap (λ z. if z then true else is_entered m again) (sym (h refl))
    when false s h = refl

    never : (b s : Bool) → (b ≡ true → s ≡ false) → is_entered m again ≡ (if b && s then true else is_entered m again)
    never true s h = ap (λ z. if z then true else is_entered m again) (sym (h refl))
    never false s h = refl

    by : (c : Bool) → is_entered n seen ≡ c → is_entered m (if is_entered n seen then entered n 0 again else again) ≡ (if bytes_eq m n && is_entered m seen then true else is_entered m again)
    by true h = ap (λ c. is_entered m (if c then entered n 0 again else again)) h ∙ entered_any m n again ∙ when (bytes_eq m n) (is_entered m seen) (λ e. same_entered m n seen e h)
    by false h = ap (λ c. is_entered m (if c then entered n 0 again else again)) h ∙ never (bytes_eq m n) (is_entered m seen) (λ e. ap (λ k. is_entered k seen) ((bytes_eq-Decides m n).0 e) ∙ h)

pub twice_begins : (ms : List ContainerModel) (seen again : Names) → seen ≡ [] → again ≡ [] → AreCounted ms seen again ms
twice_begins ms seen again s a = record { counted = λ n. (λ i. is_counted (is_entered n (sym s i)) (is_entered n (sym a i)) (filter (bytes_eq n) (names_of ms))) }

pub twice_turn : (ms : List ContainerModel) (xs : List Container) (i : ℕ) (x : Container) (seen again seen' again' : Names) → i < length xs → x ≡ get_or xs i x → seen' ≡ entered (string_bytes x.name) 0 seen
    → again' ≡ (if is_entered (string_bytes x.name) seen then entered (string_bytes x.name) 0 again else again)
    → AreCounted ms seen again (containers_view (drop i xs)) → AreCounted ms seen' again' (containers_view (drop (i + 1) xs))
twice_turn ms xs i x seen again seen' again' h e s a was = record {
  counted = λ n.
      was.counted n ∙ ap (λ ys. is_counted (is_entered n seen) (is_entered n again) (filter (bytes_eq n) (names_of (containers_view ys)))) (next xs i x h e)
      ∙ step (bytes_eq n (string_bytes x.name)) (is_entered n seen) (is_entered n again) (string_bytes x.name) (filter (bytes_eq n) (names_of (containers_view (drop (i + 1) xs))))
      ∙ (λ t. is_counted (sym (ap (is_entered n) s ∙ entered_any n (string_bytes x.name) seen) t) (sym (ap (is_entered n) a ∙ again_is n (string_bytes x.name) seen again) t) (filter (bytes_eq n) (names_of (containers_view (drop (i + 1) xs)))));
}

pub twice_end : (ms : List ContainerModel) (xs : List Container) (i : ℕ) (seen again : Names) → length xs ≤ i → AreCounted ms seen again (containers_view (drop i xs)) → AreTwice ms again
twice_end ms xs i seen again h was = record { twice = λ n. sym (was.counted n ∙ ap (λ ys. is_counted (is_entered n seen) (is_entered n again) (filter (bytes_eq n) (names_of (containers_view ys)))) (drop_all i xs h) ∙ ends (is_entered n seen) (is_entered n again)) }
  where
    ends : (s a : Bool) → is_counted s a [] ≡ a
    ends true true = refl
    ends true false = refl
    ends false true = refl
    ends false false = refl
