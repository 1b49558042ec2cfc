-- Properties that are put among others.
use Rattle.std.proofs.Common.{◌≡◌, ℕ, List, [], ◌∷◌, Bool, true, false, ◌&&◌, cond, Option, Some, is_some, String, Global, string_bytes, string_cmp, nat_cmp, bytes_eq, Ordering, Less, Equal, Greater, refl, sym, ap, ◌∙◌, true≢false, subst}
use Rattle.std.specs.Prelude.{if◌then◌else◌, not}
use Rattle.std.specs.Ordering.{is_eq, match_ordering, ordering_reverse}
use Rattle.std.specs.Cmp.Lexicographic.{slice_cmp}
use Rattle.std.specs.List.Sorted.{IsStrictlySortedBy}
use Rattle.std.specs.Map.{keys_of, lookup, lookup_key, remove_entry}
use Rattle.std.specs.BTreeMap.{insert_entry, is_at}
use Rattle.std.proofs.lemmas.Cmp.{nat_list_cmp_total}
use Rattle.std.proofs.lemmas.Map.Text.{is_eq-slice_cmp}
use Rattle.schema_defs.specs.Schema.{Schema, Properties, no_properties, property, MaybeSchema, no_schema, the_schema}
use Rattle.schema_defs.specs.Layer.{property_at, is_given}
use Rattle.schema_types.specs.View.{schema_view, properties_view}
use Rattle.schema_types.specs.declared.schema.Schema as tree
use Rattle.merge_apart.specs.Aside.{put_at, put_all, are_settled, is_settled, is_each_once}

abbrev pub Entry : Type 0
Entry = String Global × tree.Schema

abbrev pub has_name : List ℕ → Properties → Bool
has_name n ps = is_given (property_at n ps)

-- ---- how names are ordered

reversed : (n m : List ℕ) (o : Ordering) → slice_cmp nat_cmp n m ≡ o → slice_cmp nat_cmp m n ≡ ordering_reverse o
reversed n m o e = nat_list_cmp_total.antisymm m n ∙ ap ordering_reverse e

same_by : (n m : List ℕ) (o : Ordering) → slice_cmp nat_cmp n m ≡ o → bytes_eq n m ≡ is_eq o
same_by n m o e = sym (is_eq-slice_cmp n m) ∙ ap is_eq e

-- ---- one put before a first

put_by : (n : List ℕ) (s : Schema) (m : List ℕ) (t : Schema) (ps : Properties) (o : Ordering)
    → (if is_eq o then property m t ps else if match_ordering o true false false then property n s (property m t ps) else property m t (put_at n s ps))
    ≡ match_ordering o (property n s (property m t ps)) (property m t ps) (property m t (put_at n s ps))
put_by n s m t ps Less = refl
put_by n s m t ps Equal = refl
put_by n s m t ps Greater = refl

put_first : (n : List ℕ) (s : Schema) (m : List ℕ) (t : Schema) (ps : Properties) (o : Ordering) → slice_cmp nat_cmp n m ≡ o
    → put_at n s (property m t ps) ≡ match_ordering o (property n s (property m t ps)) (property m t ps) (property m t (put_at n s ps))
put_first n s m t ps o e =
    (λ i. if same_by n m o e i then property m t ps else if match_ordering (e i) true false false then property n s (property m t ps) else property m t (put_at n s ps)) ∙ put_by n s m t ps o

-- ---- two puts of different names

below_both : (n : List ℕ) (s : Schema) (m : List ℕ) (t : Schema) (h : List ℕ) (u : Schema) (ps : Properties) (p : Ordering)
    → slice_cmp nat_cmp n m ≡ Less → slice_cmp nat_cmp n h ≡ Less → slice_cmp nat_cmp m h ≡ p
    → put_at n s (put_at m t (property h u ps)) ≡ property n s (put_at m t (property h u ps))
below_both n s m t h u ps Less a b c = ap (put_at n s) (put_first m t h u ps Less c) ∙ put_first n s m t (property h u ps) Less a ∙ ap (property n s) (sym (put_first m t h u ps Less c))
below_both n s m t h u ps Equal a b c = ap (put_at n s) (put_first m t h u ps Equal c) ∙ put_first n s h u ps Less b ∙ ap (property n s) (sym (put_first m t h u ps Equal c))
below_both n s m t h u ps Greater a b c = ap (put_at n s) (put_first m t h u ps Greater c) ∙ put_first n s h u (put_at m t ps) Less b ∙ ap (property n s) (sym (put_first m t h u ps Greater c))

turned : (n : List ℕ) (s : Schema) (m : List ℕ) (t : Schema) (h : List ℕ) (u : Schema) (ps : Properties) (o : Ordering)
    → slice_cmp nat_cmp n m ≡ Less → slice_cmp nat_cmp n h ≡ o → put_at n s (put_at m t ps) ≡ put_at m t (put_at n s ps)
    → put_at n s (put_at m t (property h u ps)) ≡ put_at m t (put_at n s (property h u ps))
turned n s m t h u ps Less a b k =
    below_both n s m t h u ps (slice_cmp nat_cmp m h) a b refl ∙ sym (put_first m t n s (property h u ps) Greater (reversed n m Less a)) ∙ ap (put_at m t) (sym (put_first n s h u ps Less b))
turned n s m t h u ps Equal a b k =
    let c : slice_cmp nat_cmp m h ≡ Greater = reversed h m Less (sym (nat_list_cmp_total.congr n h m b) ∙ a) in
    ap (put_at n s) (put_first m t h u ps Greater c) ∙ put_first n s h u (put_at m t ps) Equal b ∙ sym (put_first m t h u ps Greater c) ∙ ap (put_at m t) (sym (put_first n s h u ps Equal b))
turned n s m t h u ps Greater a b k =
    let c : slice_cmp nat_cmp m h ≡ Greater = reversed h m Less (nat_list_cmp_total.trans h n m (reversed n h Greater b) a) in
    ap (put_at n s) (put_first m t h u ps Greater c) ∙ put_first n s h u (put_at m t ps) Greater b ∙ ap (property h u) k
    ∙ sym (put_first m t h u (put_at n s ps) Greater c) ∙ ap (put_at m t) (sym (put_first n s h u ps Greater b))

below_turned : (n : List ℕ) (s : Schema) (m : List ℕ) (t : Schema) (ps : Properties) → slice_cmp nat_cmp n m ≡ Less → put_at n s (put_at m t ps) ≡ put_at m t (put_at n s ps)
below_turned n s m t no_properties a = put_first n s m t no_properties Less a ∙ sym (put_first m t n s no_properties Greater (reversed n m Less a))
below_turned n s m t (property h u ps) a = turned n s m t h u ps (slice_cmp nat_cmp n h) a refl (below_turned n s m t ps a)

by_order : (n : List ℕ) (s : Schema) (m : List ℕ) (t : Schema) (ps : Properties) (o : Ordering) → slice_cmp nat_cmp n m ≡ o → is_eq o ≡ false → put_at n s (put_at m t ps) ≡ put_at m t (put_at n s ps)
by_order n s m t ps Less e h = below_turned n s m t ps e
by_order n s m t ps Equal e h = absurd (true≢false h)
by_order n s m t ps Greater e h = sym (below_turned m t n s ps (reversed n m Greater e))

-- puts of different names in either order
pub put_turned : (n : List ℕ) (s : Schema) (m : List ℕ) (t : Schema) (ps : Properties) → bytes_eq n m ≡ false → put_at n s (put_at m t ps) ≡ put_at m t (put_at n s ps)
put_turned n s m t ps h = by_order n s m t ps (slice_cmp nat_cmp n m) refl (is_eq-slice_cmp n m ∙ h)

-- ---- a name that is not there

absent_by : (b : Bool) (t : Schema) (o : MaybeSchema) → is_given (if b then the_schema t else o) ≡ false → (b ≡ false) × (is_given o ≡ false)
absent_by true t o h = absurd (true≢false h)
absent_by false t o h = (refl, h)

pub absent_rest : (n m : List ℕ) (t : Schema) (ps : Properties) → has_name n (property m t ps) ≡ false → (bytes_eq n m ≡ false) × (has_name n ps ≡ false)
absent_rest n m t ps h = absent_by (bytes_eq n m) t (property_at n ps) h

-- past all that are put, of which none has its name
pub put_past : (n : List ℕ) (s : Schema) (qs ps : Properties) → has_name n qs ≡ false → put_at n s (put_all qs ps) ≡ put_all qs (put_at n s ps)
put_past n s no_properties ps h = refl
put_past n s (property m t qs) ps h =
    let k = absent_rest n m t qs h in
    put_turned n s m t (put_all qs ps) k.0 ∙ ap (put_at m t) (put_past n s qs ps k.1)

among_by : (n : List ℕ) (s : Schema) (m : List ℕ) (t : Schema) (qs ps : Properties) (o : Ordering) → slice_cmp nat_cmp n m ≡ o → bytes_eq n m ≡ false
    → put_all (put_at n s qs) ps ≡ put_at n s (put_all qs ps) → put_all (put_at n s (property m t qs)) ps ≡ put_at n s (put_at m t (put_all qs ps))
among_by n s m t qs ps Less e h k = ap (λ rs. put_all rs ps) (put_first n s m t qs Less e)
among_by n s m t qs ps Equal e h k = absurd (true≢false (sym (same_by n m Equal e) ∙ h))
among_by n s m t qs ps Greater e h k =
    ap (λ rs. put_all rs ps) (put_first n s m t qs Greater e) ∙ ap (put_at m t) k ∙ sym (put_turned n s m t (put_all qs ps) h)

-- one more among those that are put
pub put_among : (n : List ℕ) (s : Schema) (qs ps : Properties) → has_name n qs ≡ false → put_all (put_at n s qs) ps ≡ put_at n s (put_all qs ps)
put_among n s no_properties ps h = refl
put_among n s (property m t qs) ps h =
    let k = absent_rest n m t qs h in
    among_by n s m t qs ps (slice_cmp nat_cmp n m) refl k.0 (put_among n s qs ps k.1)

-- ---- a map with one more

viewed : (o : Ordering) (x y z : List Entry) → properties_view (match_ordering o x y z) ≡ match_ordering o (properties_view x) (properties_view y) (properties_view z)
viewed Less x y z = refl
viewed Equal x y z = refl
viewed Greater x y z = refl

inserted_by : (n : List ℕ) (s : Schema) (m : List ℕ) (t : Schema) (ps rs : Properties) (o : Ordering) → slice_cmp nat_cmp n m ≡ o → bytes_eq n m ≡ false → rs ≡ put_at n s ps
    → match_ordering o (property n s (property m t ps)) (property m s ps) (property m t rs) ≡ put_at n s (property m t ps)
inserted_by n s m t ps rs Less e h k = sym (put_first n s m t ps Less e)
inserted_by n s m t ps rs Equal e h k = absurd (true≢false (sym (same_by n m Equal e) ∙ h))
inserted_by n s m t ps rs Greater e h k = ap (property m t) k ∙ sym (put_first n s m t ps Greater e)

pub inserted : (k : String Global) (s : tree.Schema) (es : List Entry) → has_name (string_bytes k) (properties_view es) ≡ false
    → properties_view (insert_entry string_cmp es k s) ≡ put_at (string_bytes k) (schema_view s) (properties_view es)
inserted k s [] h = refl
inserted k s (e ∷ es) h =
    let n = string_bytes k in
    let m = string_bytes e.0 in
    let a = absent_rest n m (schema_view e.1) (properties_view es) h in
    viewed (string_cmp k e.0) ((k, s) ∷ e ∷ es) ((e.0, s) ∷ es) (e ∷ insert_entry string_cmp es k s)
    ∙ inserted_by n (schema_view s) m (schema_view e.1) (properties_view es) (properties_view (insert_entry string_cmp es k s)) (slice_cmp nat_cmp n m) refl a.0 (inserted k s es a.1)

-- ---- maps, whose names rise

abbrev pub Rises : List Entry → Type 0
Rises es = IsStrictlySortedBy string_cmp (keys_of es)

pub rest_rises : (e : Entry) (es : List Entry) → Rises (e ∷ es) → Rises es
unfolding IsStrictlySortedBy
rest_rises e es h = h.1

first_below : (e d : Entry) (es : List Entry) → Rises (e ∷ d ∷ es) → slice_cmp nat_cmp (string_bytes e.0) (string_bytes d.0) ≡ Less
unfolding IsStrictlySortedBy
first_below e d es h = h.0.0

absent_first : (n m : List ℕ) (t : Schema) (ps : Properties) → bytes_eq n m ≡ false → has_name n ps ≡ false → has_name n (property m t ps) ≡ false
absent_first n m t ps h k = ap (λ b. is_given (if b then the_schema t else property_at n ps)) h ∙ k

-- what is below the first is none of them
none_of : (n : List ℕ) (e : Entry) (es : List Entry) → Rises (e ∷ es) → slice_cmp nat_cmp n (string_bytes e.0) ≡ Less → has_name n (properties_view es) ≡ false
none_of n e [] h l = refl
none_of n e (d ∷ es) h l =
    let f = nat_list_cmp_total.trans n (string_bytes e.0) (string_bytes d.0) l (first_below e d es h) in
    absent_first n (string_bytes d.0) (schema_view d.1) (properties_view es) (same_by n (string_bytes d.0) Less f) (none_of n d es (rest_rises e (d ∷ es) h) f)

pub first_once : (e : Entry) (es : List Entry) → Rises (e ∷ es) → has_name (string_bytes e.0) (properties_view es) ≡ false
first_once e [] h = refl
first_once e (d ∷ es) h =
    let n = string_bytes e.0 in
    let f = first_below e d es h in
    absent_first n (string_bytes d.0) (schema_view d.1) (properties_view es) (same_by n (string_bytes d.0) Less f) (none_of n d es (rest_rises e (d ∷ es) h) f)

and_so : (a b : Bool) → a ≡ true → b ≡ true → (a && b) ≡ true
and_so a b h k = ap (λ x. x && b) h ∙ k

pub each_once : (es : List Entry) → Rises es → is_each_once (properties_view es) ≡ true
each_once [] h = refl
each_once (e ∷ es) h = ap (λ b. not b && is_each_once (properties_view es)) (first_once e es h) ∙ each_once es (rest_rises e es h)

before_rest : (e : Entry) (es : List Entry) → Rises (e ∷ es) → put_at (string_bytes e.0) (schema_view e.1) (properties_view es) ≡ properties_view (e ∷ es)
before_rest e [] h = refl
before_rest e (d ∷ es) h = put_first (string_bytes e.0) (schema_view e.1) (string_bytes d.0) (schema_view d.1) (properties_view es) Less (first_below e d es h)

-- put among none, a map stays as it is
pub put_none : (es : List Entry) → Rises es → put_all (properties_view es) no_properties ≡ properties_view es
put_none [] h = refl
put_none (e ∷ es) h = ap (put_at (string_bytes e.0) (schema_view e.1)) (put_none es (rest_rises e es h)) ∙ before_rest e es h

there_by : (n : List ℕ) (s : Schema) (e : Entry) (es : List Entry) (o : Ordering) → slice_cmp nat_cmp n (string_bytes e.0) ≡ o → Rises (e ∷ es) → has_name n (properties_view (e ∷ es)) ≡ true
    → (has_name n (properties_view es) ≡ true → put_at n s (properties_view es) ≡ properties_view es) → put_at n s (properties_view (e ∷ es)) ≡ properties_view (e ∷ es)
there_by n s e es Less l h g k =
    let m = string_bytes e.0 in
    absurd (true≢false (sym g ∙ absent_first n m (schema_view e.1) (properties_view es) (same_by n m Less l) (none_of n e es h l)))
there_by n s e es Equal l h g k = put_first n s (string_bytes e.0) (schema_view e.1) (properties_view es) Equal l
there_by n s e es Greater l h g k =
    let m = string_bytes e.0 in
    let t = schema_view e.1 in
    let ps = properties_view es in
    let r : has_name n ps ≡ true = sym (ap (λ b. is_given (if b then the_schema t else property_at n ps)) (same_by n m Greater l)) ∙ g in
    put_first n s m t ps Greater l ∙ ap (property m t) (k r)

-- a name that is there already
pub put_there : (n : List ℕ) (s : Schema) (es : List Entry) → Rises es → has_name n (properties_view es) ≡ true → put_at n s (properties_view es) ≡ properties_view es
put_there n s [] h g = absurd (true≢false (sym g))
put_there n s (e ∷ es) h g = there_by n s e es (slice_cmp nat_cmp n (string_bytes e.0)) refl h g (put_there n s es (rest_rises e es h))

-- ---- looked up and taken out

given_by : (b : Bool) (s : tree.Schema) (o : Option tree.Schema) (m : MaybeSchema) → is_some o ≡ is_given m → is_some (cond b (Some s) o) ≡ is_given (if b then the_schema (schema_view s) else m)
given_by true s o m h = refl
given_by false s o m h = h

-- a name is found in a map where its properties have it
pub found : (n : List ℕ) (es : List Entry) → is_some (lookup (is_at (λ k. slice_cmp nat_cmp n (string_bytes k))) es) ≡ has_name n (properties_view es)
found n [] = refl
found n (e ∷ es) =
    given_by _ e.1 _ _ (found n es) ∙ ap (λ b. is_given (if b then the_schema (schema_view e.1) else property_at n (properties_view es))) (is_eq-slice_cmp n (string_bytes e.0))

-- ---- none of the names left is among the properties

abbrev pub NoneOf : Properties → List Entry → Type 0
NoneOf ps [] = true ≡ true
NoneOf ps (e ∷ es) = (has_name (string_bytes e.0) ps ≡ false) × NoneOf ps es

none_at_first : (es : List Entry) → NoneOf no_properties es
none_at_first [] = refl
none_at_first (e ∷ es) = (refl, none_at_first es)

as_reversed : (o : Ordering) → is_eq (ordering_reverse o) ≡ is_eq o
as_reversed Less = refl
as_reversed Equal = refl
as_reversed Greater = refl

other_way : (n m : List ℕ) → bytes_eq n m ≡ false → bytes_eq m n ≡ false
other_way n m h = same_by m n _ (reversed n m (slice_cmp nat_cmp n m) refl) ∙ as_reversed (slice_cmp nat_cmp n m) ∙ is_eq-slice_cmp n m ∙ h

given_past : (b : Bool) (t : Schema) (x y : MaybeSchema) → is_given x ≡ is_given y → is_given (if b then the_schema t else x) ≡ is_given (if b then the_schema t else y)
given_past true t x y g = refl
given_past false t x y g = g

other_by : (m n : List ℕ) (s : Schema) (k : List ℕ) (t : Schema) (ps : Properties) (o : Ordering) → slice_cmp nat_cmp n k ≡ o → bytes_eq m n ≡ false
    → has_name m (put_at n s ps) ≡ has_name m ps → has_name m (put_at n s (property k t ps)) ≡ has_name m (property k t ps)
other_by m n s k t ps Less e h g = ap (has_name m) (put_first n s k t ps Less e) ∙ ap (λ b. is_given (if b then the_schema s else property_at m (property k t ps))) h
other_by m n s k t ps Equal e h g = ap (has_name m) (put_first n s k t ps Equal e)
other_by m n s k t ps Greater e h g = ap (has_name m) (put_first n s k t ps Greater e) ∙ given_past (bytes_eq m k) t (property_at m (put_at n s ps)) (property_at m ps) g

-- whether another name is there
pub other_put : (m n : List ℕ) (s : Schema) (ps : Properties) → bytes_eq m n ≡ false → has_name m (put_at n s ps) ≡ has_name m ps
other_put m n s no_properties h = ap (λ b. is_given (if b then the_schema s else no_schema)) h
other_put m n s (property k t ps) h = other_by m n s k t ps (slice_cmp nat_cmp n k) refl h (other_put m n s ps h)

none_put : (n : List ℕ) (s : Schema) (ps : Properties) (es : List Entry) → has_name n (properties_view es) ≡ false → NoneOf ps es → NoneOf (put_at n s ps) es
none_put n s ps [] h k = k
none_put n s ps (e ∷ es) h k =
    let m = string_bytes e.0 in
    let a = absent_rest n m (schema_view e.1) (properties_view es) h in
    (other_put m n s ps (other_way n m a.0) ∙ k.0, none_put n s ps es a.1 k.1)

-- ---- what stands aside is settled

settled_first : (s t : Schema) (ps : Properties) → (is_settled t && are_settled ps) ≡ true → (is_settled t ≡ true) × (are_settled ps ≡ true)
settled_first s t ps h = both (is_settled t) (are_settled ps) h
  where
    both : (a b : Bool) → (a && b) ≡ true → (a ≡ true) × (b ≡ true)
    both true b h = (refl, h)
    both false b h = absurd (true≢false (sym h))

settled_by : (n : List ℕ) (s : Schema) (m : List ℕ) (t : Schema) (ps : Properties) (o : Ordering) → slice_cmp nat_cmp n m ≡ o → is_settled s ≡ true → are_settled (property m t ps) ≡ true
    → are_settled (put_at n s ps) ≡ true → are_settled (put_at n s (property m t ps)) ≡ true
settled_by n s m t ps Less e h k g = ap are_settled (put_first n s m t ps Less e) ∙ and_so (is_settled s) (are_settled (property m t ps)) h k
settled_by n s m t ps Equal e h k g = ap are_settled (put_first n s m t ps Equal e) ∙ k
settled_by n s m t ps Greater e h k g = ap are_settled (put_first n s m t ps Greater e) ∙ and_so (is_settled t) (are_settled (put_at n s ps)) (settled_first s t ps k).0 g

pub settled_put : (n : List ℕ) (s : Schema) (ps : Properties) → is_settled s ≡ true → are_settled ps ≡ true → are_settled (put_at n s ps) ≡ true
settled_put n s no_properties h k = and_so (is_settled s) true h refl
settled_put n s (property m t ps) h k = settled_by n s m t ps (slice_cmp nat_cmp n m) refl h k (settled_put n s ps h (settled_first s t ps k).1)

settled_left : (b : Bool) (e : Entry) (es rs : List Entry) → are_settled (properties_view (e ∷ es)) ≡ true → (are_settled (properties_view es) ≡ true → are_settled (properties_view rs) ≡ true)
    → are_settled (properties_view (cond b es (e ∷ rs))) ≡ true
settled_left true e es rs h k = (settled_first (schema_view e.1) (schema_view e.1) (properties_view es) h).1
settled_left false e es rs h k =
    let p = settled_first (schema_view e.1) (schema_view e.1) (properties_view es) h in
    and_so (is_settled (schema_view e.1)) (are_settled (properties_view rs)) p.0 (k p.1)

pub settled_removed : (test : String Global → Bool) (es : List Entry) → are_settled (properties_view es) ≡ true → are_settled (properties_view (remove_entry test es)) ≡ true
settled_removed test [] h = h
settled_removed test (e ∷ es) h = settled_left (test e.0) e es (remove_entry test es) h (settled_removed test es)

-- ---- turns of the loops

pub not_there : (q : List ℕ) (k : String Global) (es : List Entry) (b c : Bool) → q ≡ string_bytes k → b ≡ is_some (lookup (is_at (λ x. slice_cmp nat_cmp q (string_bytes x))) es) → b ≡ c
    → has_name (string_bytes k) (properties_view es) ≡ c
not_there q k es b c e h d = ap (λ n. has_name n (properties_view es)) (sym e) ∙ sym (found q es) ∙ sym h ∙ d

pub absent_after : (k : String Global) (s : tree.Schema) (old left : List Entry) → old ≡ (k, s) ∷ left → Rises old → has_name (string_bytes k) (properties_view left) ≡ false
absent_after k s old left e h = first_once (k, s) left (subst Rises e h)

pub left_rises : (e : Entry) (old left : List Entry) → old ≡ e ∷ left → Rises old → Rises left
left_rises e old left h r = rest_rises e left (subst Rises h r)

module _ (whole : Properties) (k : String Global) (s : tree.Schema) (old left : List Entry) where
  -- the next is put among the properties
  pub turn_put : (es fs : List Entry) → old ≡ (k, s) ∷ left → Rises old → has_name (string_bytes k) (properties_view es) ≡ false → fs ≡ insert_entry string_cmp es k s
      → put_all (properties_view old) (properties_view es) ≡ whole → put_all (properties_view left) (properties_view fs) ≡ whole
  turn_put es fs e r h f was =
      ap (λ xs. put_all (properties_view left) (properties_view xs)) f ∙ ap (put_all (properties_view left)) (inserted k s es h)
      ∙ sym (put_past (string_bytes k) (schema_view s) (properties_view left) (properties_view es) (absent_after k s old left e r))
      ∙ ap (λ xs. put_all (properties_view xs) (properties_view es)) (sym e) ∙ was

  -- the next is there already
  pub turn_there : (es : List Entry) → old ≡ (k, s) ∷ left → Rises old → Rises es → has_name (string_bytes k) (properties_view es) ≡ true
      → put_all (properties_view old) (properties_view es) ≡ whole → put_all (properties_view left) (properties_view es) ≡ whole
  turn_there es e r q h was =
      ap (put_all (properties_view left)) (sym (put_there (string_bytes k) (schema_view s) es q h))
      ∙ sym (put_past (string_bytes k) (schema_view s) (properties_view left) (properties_view es) (absent_after k s old left e r))
      ∙ ap (λ xs. put_all (properties_view xs) (properties_view es)) (sym e) ∙ was

  -- the next goes aside
  pub turn_aside : (es fs : List Entry) (ps : Properties) → old ≡ (k, s) ∷ left → has_name (string_bytes k) (properties_view es) ≡ false → fs ≡ insert_entry string_cmp es k s
      → put_all (properties_view es) (put_all (properties_view old) ps) ≡ whole → put_all (properties_view fs) (put_all (properties_view left) ps) ≡ whole
  turn_aside es fs ps e h f was =
      let n = string_bytes k in
      let t = schema_view s in
      let rest = put_all (properties_view left) ps in
      ap (λ xs. put_all (properties_view xs) rest) f ∙ ap (λ qs. put_all qs rest) (inserted k s es h) ∙ put_among n t (properties_view es) rest h ∙ put_past n t (properties_view es) rest h
      ∙ ap (λ xs. put_all (properties_view es) (put_all (properties_view xs) ps)) (sym e) ∙ was

none_first : (k : String Global) (s : tree.Schema) (old left es : List Entry) → old ≡ (k, s) ∷ left → NoneOf (properties_view es) old → (has_name (string_bytes k) (properties_view es) ≡ false) × NoneOf (properties_view es) left
none_first k s old left es e h = subst (NoneOf (properties_view es)) e h

pub none_more : (k : String Global) (s : tree.Schema) (old left es fs : List Entry) → old ≡ (k, s) ∷ left → Rises old → NoneOf (properties_view es) old → fs ≡ insert_entry string_cmp es k s → NoneOf (properties_view fs) left
none_more k s old left es fs e r h f =
    let p = none_first k s old left es e h in
    subst (λ ps. NoneOf ps left) (sym (ap properties_view f ∙ inserted k s es p.0)) (none_put (string_bytes k) (schema_view s) (properties_view es) left (absent_after k s old left e r) p.1)

pub none_left : (k : String Global) (s : tree.Schema) (old left es : List Entry) → old ≡ (k, s) ∷ left → NoneOf (properties_view es) old → NoneOf (properties_view es) left
none_left k s old left es e h = (none_first k s old left es e h).1

-- the next stays with what doesn't go aside
pub turn_stays : (whole qs : Properties) (k : String Global) (s : tree.Schema) (old left es fs : List Entry) → old ≡ (k, s) ∷ left → Rises old → NoneOf (properties_view es) old → fs ≡ insert_entry string_cmp es k s
    → put_all qs (put_all (properties_view old) (properties_view es)) ≡ whole → put_all qs (put_all (properties_view left) (properties_view fs)) ≡ whole
turn_stays whole qs k s old left es fs e r h f was =
    ap (put_all qs) (turn_put (put_all (properties_view old) (properties_view es)) k s old left es fs e r (none_first k s old left es e h).0 f refl) ∙ was

pub settled_more : (k : String Global) (s : tree.Schema) (es fs : List Entry) → has_name (string_bytes k) (properties_view es) ≡ false → fs ≡ insert_entry string_cmp es k s → is_settled (schema_view s) ≡ true
    → are_settled (properties_view es) ≡ true → are_settled (properties_view fs) ≡ true
settled_more k s es fs h f t g = ap (λ xs. are_settled (properties_view xs)) f ∙ ap are_settled (inserted k s es h) ∙ settled_put (string_bytes k) (schema_view s) (properties_view es) t g

-- ---- one that comes back

removed_by : (b : Bool) (e : Entry) (es rs : List Entry) (ps : Properties) (k : String Global) (s : tree.Schema) (ks : Option (String Global)) (ss : Option tree.Schema) → Rises (e ∷ es)
    → cond b (Some e.0) ks ≡ Some k → cond b (Some e.1) ss ≡ Some s
    → (ks ≡ Some k → ss ≡ Some s → put_all (properties_view es) ps ≡ put_all (properties_view rs) (put_at (string_bytes k) (schema_view s) ps))
    → put_all (properties_view (e ∷ es)) ps ≡ put_all (properties_view (cond b es (e ∷ rs))) (put_at (string_bytes k) (schema_view s) ps)
removed_by true e es rs ps k s ks ss r f g h =
    let a : e.0 ≡ k = cc in
    let b : e.1 ≡ s = cc in
    put_past (string_bytes e.0) (schema_view e.1) (properties_view es) ps (first_once e es r)
    ∙ (λ i. put_all (properties_view es) (put_at (string_bytes (a i)) (schema_view (b i)) ps))
removed_by false e es rs ps k s ks ss r f g h = ap (put_at (string_bytes e.0) (schema_view e.1)) (h f g)

removed : (test : String Global → Bool) (es : List Entry) (ps : Properties) (k : String Global) (s : tree.Schema) → Rises es → lookup_key test es ≡ Some k → lookup test es ≡ Some s
    → put_all (properties_view es) ps ≡ put_all (properties_view (remove_entry test es)) (put_at (string_bytes k) (schema_view s) ps)
removed test [] ps k s r f g = cc
removed test (e ∷ es) ps k s r f g =
    removed_by (test e.0) e es (remove_entry test es) ps k s (lookup_key test es) (lookup test es) r f g (removed test es ps k s (rest_rises e es r))

same_name : (n m : List ℕ) (ps : Properties) → slice_cmp nat_cmp n m ≡ Equal → has_name m ps ≡ has_name n ps
same_name n m no_properties e = refl
same_name n m (property k t ps) e =
    let b : bytes_eq m k ≡ bytes_eq n k = sym (is_eq-slice_cmp m k) ∙ ap is_eq (sym (nat_list_cmp_total.congr n m k e)) ∙ is_eq-slice_cmp n k in
    ap (λ x. is_given (if x then the_schema t else property_at m ps)) b ∙ given_past (bytes_eq n k) t (property_at m ps) (property_at n ps) (same_name n m ps e)

abbrev pub test_of : List ℕ → String Global → Bool
test_of q = is_at (λ x. slice_cmp nat_cmp q (string_bytes x))

pub turn_back : (whole : Properties) (q p : List ℕ) (k : String Global) (s : tree.Schema) (old left es fs : List Entry) (b : Bool) → Rises old
    → lookup_key (test_of q) old ≡ Some k → lookup (test_of q) old ≡ Some s → slice_cmp nat_cmp q (string_bytes k) ≡ Equal → left ≡ remove_entry (test_of q) old
    → p ≡ q → b ≡ is_some (lookup (test_of p) es) → b ≡ false → fs ≡ insert_entry string_cmp es k s
    → put_all (properties_view old) (properties_view es) ≡ whole → put_all (properties_view left) (properties_view fs) ≡ whole
turn_back whole q p k s old left es fs b r f g e l same h d i was =
    let absent : has_name (string_bytes k) (properties_view es) ≡ false = same_name q (string_bytes k) (properties_view es) e ∙ ap (λ n. has_name n (properties_view es)) (sym same) ∙ sym (found p es) ∙ sym h ∙ d in
    (λ j. put_all (properties_view (l j)) (properties_view (i j))) ∙ ap (put_all (properties_view (remove_entry (test_of q) old))) (inserted k s es absent)
    ∙ sym (removed (test_of q) old (properties_view es) k s r f g) ∙ was

-- ---- at the start

pub begins_aside : (whole left es : List Entry) → es ≡ [] → left ≡ whole → Rises left → put_all (properties_view left) (properties_view es) ≡ properties_view whole
begins_aside whole left es e h r = ap (λ xs. put_all (properties_view left) (properties_view xs)) e ∙ put_none left r ∙ ap properties_view h

pub none_at_start : (left es : List Entry) → es ≡ [] → NoneOf (properties_view es) left
none_at_start left es e = subst (λ xs. NoneOf (properties_view xs) left) (sym e) (none_at_first left)
