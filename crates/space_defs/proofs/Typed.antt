-- The types that are written for what a space holds are those of the trees.
use Rattle.std.proofs.Common.{◌≡◌, ◌<◌, ◌≤◌, ℕ, zero, suc, List, [], ◌∷◌, map, Bool, true, false, Some, is_some, refl, sym, ap, ap₂, ◌∙◌, true≢false, codes, arith}
use Rattle.std.specs.Fmt.{decimal}
use Rattle.token_trees.specs.Token.{digits, site}
use Rattle.syntax_trees.specs.Syntax.{TyD, ty_array, ty_tuple, ex_fixed, more_tys, tys_of}
use Rattle.entry_defs.specs.Entry.{Target, Entry, boolean_entry, integer_entry, text_entry, native_entry, any_entry, unit_entry, option_entry, vec_entry, set_entry, map_entry, tuple_entry, array_entry, reference, item, Entries, no_entries, entry_then, entry_again}
use Rattle.entry_defs.specs.Space.{Id, ShapeAt, EntryAt, item_at, Space, entry_at, Holds, HoldsEntries}
use Rattle.entry_defs.specs.Table.{Table, target_name, item_name}
use Rattle.emit_defs.specs.Models.{unboxed}
use Rattle.emit_defs.specs.Trees.{option_ty, in_std, of_one, map_ty, used_ty, ty_again, entry_ty, entry_tys}
use Rattle.space_defs.specs.Items.{name_of, name_at}
use Rattle.space_defs.specs.Types.{none_boxed, used_ty_at, form_ty, ty_within}
use Rattle.space_defs.specs.Ordered.{AreBelow}
use Rattle.space_defs.specs.Held.{HoldsTable}
use Rattle.space_defs.proofs.Pairs.{id_or}

used_same : (x : Bool) (b : List ℕ → Bool) (m n : List ℕ) → x ≡ b n → m ≡ n → used_ty_at x m ≡ used_ty b n
used_same x b m n e f = ap₂ (λ y z. used_ty_at y z) e f

again : (j l : Id) (js : List Id) (f : Id → TyD) → l ≡ j → tys_of (map f (j ∷ l ∷ js)) ≡ ty_again (tys_of (map f (l ∷ js)))
again j l js f e = ap (λ z. more_tys (f z) (tys_of (map f (l ∷ js)))) (sym e)

lower_than : (i k : ℕ) (js : List Id) → i ≤ k → AreBelow i js → AreBelow k js
lower_than i k [] l a = tt
lower_than i k (j ∷ js) l a = let b : j < i = a.0 in (omega arith, lower_than i k js l a.1)

module _ (leads : Target → Id → Bool) (space : Space) (t : Table) (h : HoldsTable leads space t) where
  abbrev name : Target → List ℕ
  name q = target_name t q

  -- the same is said of an item at its id as by its name
  abbrev pub Agree : (Id → Bool) → (List ℕ → Bool) → Type 0
  Agree c b = (j : Id) (n : List ℕ) (s : ShapeAt) → entry_at space j ≡ Some (item_at n s) → c j ≡ b n

  pub none_agree : Agree none_boxed unboxed
  none_agree j n s a = refl

  form : (c : Id → Bool) (k : ℕ) (i : Id) (e : EntryAt) → entry_at space i ≡ Some e → ty_within space (suc k) c i ≡ form_ty (name_at space) (λ d j. ty_within space k d j) c i (Some e)
  form c k i e a = ap (form_ty (name_at space) (λ d j. ty_within space k d j) c i) a

  mutual
    pub type_same : (c : Id → Bool) (b : List ℕ → Bool) → Agree c b → (k : ℕ) (e : Entry) (i : Id) → i < k → Holds leads space e i → ty_within space k c i ≡ entry_ty name b e
    type_same c b a zero e i l x = absurd (omega arith)
    type_same c b a (suc k) boolean_entry i l x = form c k i _ x
    type_same c b a (suc k) (integer_entry y) i l x = form c k i _ x
    type_same c b a (suc k) text_entry i l x = form c k i _ x
    type_same c b a (suc k) (native_entry f) i l x = form c k i _ x
    type_same c b a (suc k) any_entry i l x = form c k i _ x
    type_same c b a (suc k) unit_entry i l x = form c k i _ x
    type_same c b a (suc k) (option_entry e) i l x =
        let d : x.0 < i = (h.lower i _ x.1).0 in
        form c k i _ x.1 ∙ ap option_ty (type_same c b a k e x.0 (omega arith) x.2)
    type_same c b a (suc k) (vec_entry e) i l x =
        let d : x.0 < i = (h.lower i _ x.1).0 in
        form c k i _ x.1 ∙ ap (λ y. in_std (codes "vec") (codes "Vec") (of_one y)) (type_same none_boxed unboxed none_agree k e x.0 (omega arith) x.2)
    type_same c b a (suc k) (set_entry e) i l x =
        let d : x.0 < i = (h.lower i _ x.1).0 in
        form c k i _ x.1 ∙ ap (λ y. in_std (codes "collections") (codes "HashSet") (of_one y)) (type_same none_boxed unboxed none_agree k e x.0 (omega arith) x.2)
    type_same c b a (suc k) (map_entry m e) i l x =
        let d : x.0 < i = (h.lower i _ x.2).0 in
        let f : x.1 < i = (h.lower i _ x.2).1.0 in
        form c k i _ x.2 ∙ ap₂ map_ty (type_same none_boxed unboxed none_agree k m x.0 (omega arith) x.3) (type_same none_boxed unboxed none_agree k e x.1 (omega arith) x.4)
    type_same c b a (suc k) (tuple_entry es) i l x =
        form c k i _ x.1 ∙ ap ty_tuple (types_same c b a k es x.0 (lower_than i k x.0 (omega arith) (h.lower i _ x.1)) x.2)
    type_same c b a (suc k) (array_entry e n) i l x =
        let d : x.0 < i = (h.lower i _ x.1).0 in
        form c k i _ x.1 ∙ ap (λ y. ty_array y (ex_fixed (digits (decimal n)) site)) (type_same c b a k e x.0 (omega arith) x.2)
    type_same c b a (suc k) (reference q) i l x =
        let d = h.led q x.0 x.2 in
        let n : name_at space x.0 ≡ d.0.name = ap name_of d.2.1 in
        let m : d.0.name ≡ name q = sym (ap item_name d.1) in
        form c k i _ x.1 ∙ used_same (c x.0) b (name_at space x.0) (name q) (a x.0 d.0.name d.2.0 d.2.1 ∙ ap b m) (n ∙ m)
    type_same c b a (suc k) (item n s) i l x = form c k i _ x.1 ∙ used_same (c i) b n n (a i n x.0 x.1) refl

    pub types_same : (c : Id → Bool) (b : List ℕ → Bool) → Agree c b → (k : ℕ) (es : Entries) (js : List Id) → AreBelow k js → HoldsEntries leads space es js → tys_of (map (λ j. ty_within space k c j) js) ≡ entry_tys name b es
    types_same c b a k no_entries [] l x = refl
    types_same c b a k no_entries (j ∷ js) l x = absurd x
    types_same c b a k (entry_then e es) [] l x = absurd x
    types_same c b a k (entry_then e es) (j ∷ js) l x = ap₂ more_tys (type_same c b a k e j l.0 x.0) (types_same c b a k es js l.1 x.1)
    types_same c b a k (entry_again es) [] l x = absurd x
    types_same c b a k (entry_again es) (j ∷ []) l x = absurd (true≢false (sym (ap is_some x.0)))
    types_same c b a k (entry_again es) (j ∷ m ∷ js) l x =
        again j m js (λ i. ty_within space k c i) (ap (id_or j) x.0) ∙ ap ty_again (types_same c b a k es (m ∷ js) l.1 x.1)
