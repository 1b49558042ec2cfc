-- What is bound in a table with names, and what its items are called.
use Rattle.std.proofs.Common.{◌≡◌, ℕ, List, [], ◌∷◌, ◌++◌, Bool, true, false, refl, sym, ap, subst, inl, inr, bytes_eq}
use Rattle.entry_defs.specs.Table.{ItemEntry, Table, items_of, Among}
use Rattle.naming_defs.specs.Names.{Names, is_among, prelude_values, named_table}
use Rattle.bound_names.specs.Laws.{bound_names, FieldsAreBindable, DerivedNamesAreFree}
use Rattle.bound_names.proofs.Apart.{itself, no-more, refused, in-left, in-right, prelude-in}
use Rattle.bound_names.proofs.Walked.{all_bound, table}

-- what an item's variants bind is among what all bind
inside : (n : List ℕ) (i : ItemEntry) (is : List ItemEntry) → Among i is → is_among n (bound_names i.shape) ≡ true → is_among n (all_bound is) ≡ true
inside n i [] a h = absurd a
inside n i (x ∷ xs) (inl e) h = in-left n (bound_names x.shape) (all_bound xs) (subst (λ (z : ItemEntry). is_among n (bound_names z.shape) ≡ true) (sym e) h)
inside n i (x ∷ xs) (inr a) h = in-right n (bound_names x.shape) (all_bound xs) (inside n i xs a h)

pub fields_are_bindable : FieldsAreBindable
fields_are_bindable is_good t i a =
    let is = items_of (named_table is_good t) in
    let p = (table is_good t).1 in
    record {
      no_item = λ j b v. refused (is_among j.name (bound_names i.shape)) (λ h. no-more (bytes_eq j.name j.name) (itself j.name) (p.differing j.name j (inside j.name i is a h) b v));
      not_of_prelude = λ n h. refused (is_among n (bound_names i.shape)) (λ k. no-more (is_among n prelude_values) (prelude-in n [] h) (p.free n (inside n i is a k)));
    }

pub derived_names_are_free : DerivedNamesAreFree
derived_names_are_free is_good t i a =
    let is = items_of (named_table is_good t) in
    let p = (table is_good t).1 in
    record { item = p.undenied i a; fields = λ n h. p.underived n (inside n i is a h) }
