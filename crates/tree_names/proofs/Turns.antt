-- Turns of the loops, and where they end.
use Rattle.std.proofs.Common.{◌≡◌, ◌<◌, ◌≤◌, ◌+◌, ◌++◌, ℕ, suc, List, [], ◌∷◌, map, length, take, get_or, Option, Vec, Global, codes, refl, sym, ap, ◌∙◌, subst, arith}
use Rattle.std.proofs.lemmas.List.{take_all, length-map, get_or-map, map-append}
use Rattle.model_defs.specs.Model.{TagModel}
use Rattle.entry_defs.specs.Table.{TargetEntry}
use Rattle.naming_defs.specs.Names.{Names, name_by, keys, bound}
use Rattle.naming_defs.specs.Good.{is_good_name}
use Rattle.good_names.specs.Given.{nothing_off, has_value, Stands, DoesWithin, Does}
use Rattle.tree_types.specs.View.{label_view, tree_view, target_entry}
use Rattle.tree_names.specs.Seen.{PartD, part_view, names_of, part_named, parts_named, part_identified, parts_identified, part_bound, parts_bound, identifiers_of, variant_view, name_in, variant_named, variants_named, variant_identified, variants_identified, entry_named, trees_named, target_named, targets_named, targets_given, item_given_to, with_names}
use Rattle.good_names.specs.declared.given.GivenNames.{GivenNames}
use Rattle.tree_types.specs.declared.tree.Label.{Label}
use Rattle.tree_types.specs.declared.tree.Target.{Target}
use Rattle.tree_types.specs.declared.tree.FieldHead.{FieldHead}
use Rattle.tree_types.specs.declared.tree.VariantHead.{VariantHead}
use Rattle.tree_types.specs.declared.tree.Tree.{Tree}
use Rattle.tree_names.proofs.Steps.{Gives, begin, turn, end, owned_begin, owned_turn, owned_end, want_turn, want_end, mapped_step, mapped_push, does_none, does_more}
use Rattle.tree_names.proofs.Tables.{key_more, both_at}

abbrev Part : Type 0
Part = FieldHead × Option Tree

abbrev Case : Type 0
Case = VariantHead × Vec (FieldHead × Option Tree) Global

abbrev T : List ℕ
T = codes "Type"

abbrev F : List ℕ
F = codes "field"

abbrev V : List ℕ
V = codes "Variant"

pub no_items : {X : Type 0} (xs : List X) → length xs ≡ 0 → xs ≡ []
no_items [] h = refl
no_items (x ∷ xs) h = absurd (omega (arith, h))

-- ---- what is wanted beside

pub fields_wanted_turn : (s r : GivenNames) (items : List Part) (i : ℕ) (a : Part) → ((p : List ℕ) → Stands s p [] (names_of (map part_view (take i items)))) → i < length items → a ≡ get_or items i a
    → ((p : List ℕ) (g b : Names) → Stands s p g b → Stands r p g (b ++ a.0.label.wanted.now ∷ [])) → (p : List ℕ) → Stands r p [] (names_of (map part_view (take (i + 1) items)))
fields_wanted_turn s r items i a d h e k = want_turn (λ (q : PartD). q.name) part_view s r items i a a.0.label.wanted.now h e refl d k

pub fields_wanted_end : (s : GivenNames) (items all : List Part) (i : ℕ) → ((p : List ℕ) → Stands s p [] (names_of (map part_view (take i items)))) → length items ≤ i → items ≡ all → (p : List ℕ) → Stands s p [] (names_of (map part_view all))
fields_wanted_end s items all i d h e = want_end (λ (q : PartD). q.name) part_view s items all i h e d

pub variants_wanted_turn : (tag : TagModel) (s r : GivenNames) (items : List Case) (i : ℕ) (a : Case) → ((p : List ℕ) → Stands s p [] (map (name_in tag) (map variant_view (take i items)))) → i < length items → a ≡ get_or items i a
    → ((p : List ℕ) (g b : Names) → Stands s p g b → Stands r p g (b ++ name_by tag (label_view a.0.label) a.0.label.wanted.now ∷ [])) → (p : List ℕ) → Stands r p [] (map (name_in tag) (map variant_view (take (i + 1) items)))
variants_wanted_turn tag s r items i a d h e k = want_turn (name_in tag) variant_view s r items i a (name_by tag (label_view a.0.label) a.0.label.wanted.now) h e refl d k

pub variants_wanted_end : (tag : TagModel) (s : GivenNames) (items all : List Case) (i : ℕ) → ((p : List ℕ) → Stands s p [] (map (name_in tag) (map variant_view (take i items)))) → length items ≤ i → items ≡ all
    → (p : List ℕ) → Stands s p [] (map (name_in tag) (map variant_view all))
variants_wanted_end tag s items all i d h e = want_end (name_in tag) variant_view s items all i h e d

pub keys_wanted_turn : (s r : GivenNames) (items : List (Target × Tree)) (i : ℕ) (a : Target × Tree) → ((p : List ℕ) → Stands s p [] (keys is_good_name (map target_entry (take i items)))) → i < length items → a ≡ get_or items i a
    → ((p : List ℕ) (g b : Names) → Stands s p g b → Stands r p g (b ++ keys is_good_name (target_entry a ∷ []))) → (p : List ℕ) → Stands r p [] (keys is_good_name (map target_entry (take (i + 1) items)))
keys_wanted_turn s r items i a d h e k p =
    subst (λ (z : Names). Stands r p [] z) (sym (ap (keys is_good_name) (mapped_step target_entry items i a h e) ∙ key_more (map target_entry (take i items)) (target_entry a)))
    (k p [] (keys is_good_name (map target_entry (take i items))) (d p))

pub keys_wanted_end : (s : GivenNames) (items all : List (Target × Tree)) (i : ℕ) → ((p : List ℕ) → Stands s p [] (keys is_good_name (map target_entry (take i items)))) → length items ≤ i → items ≡ all
    → (p : List ℕ) → Stands s p [] (keys is_good_name (map target_entry all))
keys_wanted_end s items all i d h e p = subst (λ (z : List (Target × Tree)). Stands s p [] (keys is_good_name (map target_entry z))) (take_all i items h ∙ e) (d p)

-- ---- identifiers

pub fields_identified_begin : (s : GivenNames) (done rest all : List Part) → done ≡ [] → rest ≡ all → Gives nothing_off F part_identified s s (map part_view done) (map part_view rest) (map part_view all)
fields_identified_begin s done rest all = owned_begin nothing_off F part_identified part_view part_view s done rest all

pub fields_identified_turn : (s m r : GivenNames) (done new rest left all : List Part) (a b : Part) → Gives nothing_off F part_identified s m (map part_view done) (map part_view rest) (map part_view all) → rest ≡ a ∷ left → new ≡ done ++ b ∷ []
    → Does F m r (part_view b) (part_identified (part_view a)) → Gives nothing_off F part_identified s r (map part_view new) (map part_view left) (map part_view all)
fields_identified_turn s m r done new rest left all a b g e n d = owned_turn nothing_off F part_identified part_view part_view s m r done new b rest left all a e n g d

pub fields_identified_end : (s r : GivenNames) (done rest all : List Part) → Gives nothing_off F part_identified s r (map part_view done) (map part_view rest) (map part_view all) → rest ≡ []
    → Does F s r (map part_view done) (parts_identified (map part_view all))
fields_identified_end s r done rest all g e = owned_end nothing_off F part_identified part_view part_view s r done rest all e g

-- where patterns bind them
module _ (items : GivenNames) where
  pub fields_bound_begin : (s : GivenNames) (done rest all : List Part) → done ≡ [] → rest ≡ all → Gives (has_value items) F part_bound s s (map part_view done) (map part_view rest) (map part_view all)
  fields_bound_begin s done rest all = owned_begin (has_value items) F part_bound part_view part_view s done rest all

  pub fields_bound_turn : (s m r : GivenNames) (done new rest left all : List Part) (a b : Part) → Gives (has_value items) F part_bound s m (map part_view done) (map part_view rest) (map part_view all) → rest ≡ a ∷ left → new ≡ done ++ b ∷ []
      → DoesWithin (has_value items) F m r (part_view b) (part_bound (part_view a)) → Gives (has_value items) F part_bound s r (map part_view new) (map part_view left) (map part_view all)
  fields_bound_turn s m r done new rest left all a b g e n d = owned_turn (has_value items) F part_bound part_view part_view s m r done new b rest left all a e n g d

  pub fields_bound_end : (s r : GivenNames) (done rest all : List Part) → Gives (has_value items) F part_bound s r (map part_view done) (map part_view rest) (map part_view all) → rest ≡ []
      → DoesWithin (has_value items) F s r (map part_view done) (parts_bound (map part_view all))
  fields_bound_end s r done rest all g e = owned_end (has_value items) F part_bound part_view part_view s r done rest all e g

-- and then taken
abbrev pub Takes : GivenNames → GivenNames → Names → Type 0
Takes s r ns = (p : List ℕ) (t b : Names) → Stands s p t b → Stands r p (bound ns t) b

bound_last : (ns : Names) (n : List ℕ) (t : Names) → bound (ns ++ n ∷ []) t ≡ n ∷ bound ns t
bound_last [] n t = refl
bound_last (m ∷ ns) n t = bound_last ns n (m ∷ t)

identifiers_more : (items : List Part) (i : ℕ) (a : Part) → i < length items → a ≡ get_or items i a → identifiers_of (map part_view (take (i + 1) items)) ≡ identifiers_of (map part_view (take i items)) ++ label_view a.0.label ∷ []
identifiers_more items i a h e = ap identifiers_of (mapped_step part_view items i a h e) ∙ map-append (λ (q : PartD). q.identifier) (map part_view (take i items)) (part_view a ∷ [])

pub takes_turn : (s m r : GivenNames) (items : List Part) (i : ℕ) (a : Part) → Takes s m (identifiers_of (map part_view (take i items))) → i < length items → a ≡ get_or items i a
    → ((p : List ℕ) (t b : Names) → Stands m p t b → Stands r p (label_view a.0.label ∷ t) b) → Takes s r (identifiers_of (map part_view (take (i + 1) items)))
takes_turn s m r items i a d h e k p t b st =
    subst (λ (z : Names). Stands r p z b) (sym (ap (λ z. bound z t) (identifiers_more items i a h e) ∙ bound_last (identifiers_of (map part_view (take i items))) (label_view a.0.label) t))
    (k p (bound (identifiers_of (map part_view (take i items))) t) b (d p t b st))

pub takes_end : (s r : GivenNames) (items all : List Part) (i : ℕ) → Takes s r (identifiers_of (map part_view (take i items))) → length items ≤ i → items ≡ all → Takes s r (identifiers_of (map part_view all))
takes_end s r items all i d h e = subst (λ (z : List Part). Takes s r (identifiers_of (map part_view z))) (take_all i items h ∙ e) d

pub variants_identified_begin : (tag : TagModel) (s : GivenNames) (done rest all : List Case) → done ≡ [] → rest ≡ all → Gives nothing_off V (variant_identified tag) s s (map variant_view done) (map variant_view rest) (map variant_view all)
variants_identified_begin tag s done rest all = owned_begin nothing_off V (variant_identified tag) variant_view variant_view s done rest all

pub variants_identified_turn : (tag : TagModel) (s m r : GivenNames) (done new rest left all : List Case) (a b : Case) → Gives nothing_off V (variant_identified tag) s m (map variant_view done) (map variant_view rest) (map variant_view all)
    → rest ≡ a ∷ left → new ≡ done ++ b ∷ [] → Does V m r (variant_view b) (variant_identified tag (variant_view a)) → Gives nothing_off V (variant_identified tag) s r (map variant_view new) (map variant_view left) (map variant_view all)
variants_identified_turn tag s m r done new rest left all a b g e n d = owned_turn nothing_off V (variant_identified tag) variant_view variant_view s m r done new b rest left all a e n g d

pub variants_identified_end : (tag : TagModel) (s r : GivenNames) (done rest all : List Case) → Gives nothing_off V (variant_identified tag) s r (map variant_view done) (map variant_view rest) (map variant_view all) → rest ≡ []
    → Does V s r (map variant_view done) (variants_identified tag (map variant_view all))
variants_identified_end tag s r done rest all g e = owned_end nothing_off V (variant_identified tag) variant_view variant_view s r done rest all e g

-- ---- the walk

pub parts_begin : (s : GivenNames) (done items : List Part) → done ≡ [] → Does T s s (map part_view done) (parts_named (map part_view (take 0 items)))
parts_begin s done items = begin T part_named part_view part_view s done items

pub parts_turn : (s m r : GivenNames) (done new items : List Part) (i : ℕ) (a b : Part) → Does T s m (map part_view done) (parts_named (map part_view (take i items))) → i < length items → a ≡ get_or items i a → new ≡ done ++ b ∷ []
    → Does T m r (part_view b) (part_named (part_view a)) → Does T s r (map part_view new) (parts_named (map part_view (take (i + 1) items)))
parts_turn s m r done new items i a b d h e n k = turn T part_named part_view part_view s m r done new b items i a h e n d k

pub parts_end : (s r : GivenNames) (done items all : List Part) (i : ℕ) → Does T s r (map part_view done) (parts_named (map part_view (take i items))) → length items ≤ i → items ≡ all → Does T s r (map part_view done) (parts_named (map part_view all))
parts_end s r done items all i d h e = end T part_named part_view part_view s r done items all i h e d

pub variants_begin : (s : GivenNames) (done items : List Case) → done ≡ [] → Does T s s (map variant_view done) (variants_named (map variant_view (take 0 items)))
variants_begin s done items = begin T variant_named variant_view variant_view s done items

pub variants_turn : (s m r : GivenNames) (done new items : List Case) (i : ℕ) (a b : Case) → Does T s m (map variant_view done) (variants_named (map variant_view (take i items))) → i < length items → a ≡ get_or items i a → new ≡ done ++ b ∷ []
    → Does T m r (variant_view b) (variant_named (variant_view a)) → Does T s r (map variant_view new) (variants_named (map variant_view (take (i + 1) items)))
variants_turn s m r done new items i a b d h e n k = turn T variant_named variant_view variant_view s m r done new b items i a h e n d k

pub variants_end : (s r : GivenNames) (done items all : List Case) (i : ℕ) → Does T s r (map variant_view done) (variants_named (map variant_view (take i items))) → length items ≤ i → items ≡ all → Does T s r (map variant_view done) (variants_named (map variant_view all))
variants_end s r done items all i d h e = end T variant_named variant_view variant_view s r done items all i h e d

-- ---- tables

abbrev given_for : TargetEntry → Names → Names → Names × List ℕ
given_for x = item_given_to x.led_to

pub labels_begin : (s : GivenNames) (done : List Label) (items : List (Target × Tree)) → done ≡ [] → Does T s s (map label_view done) (targets_given (map target_entry (take 0 items)))
labels_begin s done items = begin T given_for target_entry label_view s done items

pub labels_turn : (s m r : GivenNames) (done new : List Label) (items : List (Target × Tree)) (i : ℕ) (a : Target × Tree) (b : Label) → Does T s m (map label_view done) (targets_given (map target_entry (take i items))) → i < length items → a ≡ get_or items i a
    → new ≡ done ++ b ∷ [] → Does T m r (label_view b) (item_given_to (target_entry a).led_to) → Does T s r (map label_view new) (targets_given (map target_entry (take (i + 1) items)))
labels_turn s m r done new items i a b d h e n k = turn T given_for target_entry label_view s m r done new b items i a h e n d k

pub labels_end : (s r : GivenNames) (done : List Label) (items all : List (Target × Tree)) (i : ℕ) → Does T s r (map label_view done) (targets_given (map target_entry (take i items))) → length items ≤ i → items ≡ all → Does T s r (map label_view done) (targets_given (map target_entry all))
labels_end s r done items all i d h e = end T given_for target_entry label_view s r done items all i h e d

pub trees_begin : (s : GivenNames) (done items : List Tree) → done ≡ [] → Does T s s (map tree_view done) (trees_named (map tree_view (take 0 items)))
trees_begin s done items = begin T entry_named tree_view tree_view s done items

pub trees_turn : (s m r : GivenNames) (done new items : List Tree) (i : ℕ) (a b : Tree) → Does T s m (map tree_view done) (trees_named (map tree_view (take i items))) → i < length items → a ≡ get_or items i a → new ≡ done ++ b ∷ []
    → Does T m r (tree_view b) (entry_named (tree_view a)) → Does T s r (map tree_view new) (trees_named (map tree_view (take (i + 1) items)))
trees_turn s m r done new items i a b d h e n k = turn T entry_named tree_view tree_view s m r done new b items i a h e n d k

pub trees_end : (s r : GivenNames) (done items all : List Tree) (i : ℕ) → Does T s r (map tree_view done) (trees_named (map tree_view (take i items))) → length items ≤ i → items ≡ all → Does T s r (map tree_view done) (trees_named (map tree_view all))
trees_end s r done items all i d h e = end T entry_named tree_view tree_view s r done items all i h e d

pub targets_begin : (s : GivenNames) (done : List (Target × Tree)) (ps : List (TargetEntry × List ℕ)) → done ≡ [] → Does T s s (map target_entry done) (targets_named (take 0 ps))
targets_begin s done ps e = does_none T target_named s (map target_entry done) (ap (map target_entry) e)

seen_at : {X Y : Type 0} (f : X → Y) (xs : List X) (i : ℕ) (a : X) → i < length xs → a ≡ get_or xs i a → get_or (map f xs) i (f a) ≡ f a
seen_at f xs i a h e = get_or-map f xs i a (f a) h ∙ ap f (sym e)

pub targets_turn : (s m r : GivenNames) (done new xs : List (Target × Tree)) (ls : List Label) (i : ℕ) (a b : Target × Tree) (l : Label) → Does T s m (map target_entry done) (targets_named (take i (with_names (map target_entry xs) (map label_view ls))))
    → i < length xs → i < length ls → a ≡ get_or xs i a → l ≡ get_or ls i l → new ≡ done ++ b ∷ [] → Does T m r (target_entry b) (target_named (target_entry a, label_view l))
    → Does T s r (map target_entry new) (targets_named (take (i + 1) (with_names (map target_entry xs) (map label_view ls))))
targets_turn s m r done new xs ls i a b l d h k e f n g =
    let ys = map target_entry xs in
    let ns = map label_view ls in
    let p : i < length ys = simp length-map h in
    let q : i < length ns = simp length-map k in
    let one_more : i + 1 ≡ suc i = omega arith in
    does_more T target_named s m r (map target_entry done) (map target_entry new) (take i (with_names ys ns)) (take (i + 1) (with_names ys ns)) (target_entry a, label_view l) (target_entry b) (mapped_push target_entry new done b n)
    (ap (λ j. take j (with_names ys ns)) one_more ∙ both_at ys ns i (target_entry a) (label_view l) p q
    ∙ (λ j. take i (with_names ys ns) ++ (seen_at target_entry xs i a h e j, seen_at label_view ls i l k f j) ∷ [])) d g

no_longer : (xs : List TargetEntry) (ns : Names) → length (with_names xs ns) ≤ length xs
no_longer [] ns = omega arith
no_longer (x ∷ xs) [] = omega arith
no_longer (x ∷ xs) (n ∷ ns) = let h = no_longer xs ns in omega (arith, h)

pub targets_end : (s r : GivenNames) (done xs : List (Target × Tree)) (ls : List Label) (i : ℕ) → Does T s r (map target_entry done) (targets_named (take i (with_names (map target_entry xs) (map label_view ls)))) → length xs ≤ i
    → Does T s r (map target_entry done) (targets_named (with_names (map target_entry xs) (map label_view ls)))
targets_end s r done xs ls i d h =
    let ps = with_names (map target_entry xs) (map label_view ls) in
    let k = no_longer (map target_entry xs) (map label_view ls) in
    let l : length (map target_entry xs) ≡ length xs = simp length-map in
    subst (λ (z : List (TargetEntry × List ℕ)). Does T s r (map target_entry done) (targets_named z)) (take_all i ps (omega (arith, k, l, h))) d
