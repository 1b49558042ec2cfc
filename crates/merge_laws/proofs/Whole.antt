-- A merge of objects, and of references, meets what both sides say of a value.
use Rattle.std.proofs.Common.{◌≡◌, ℕ, List, [], Bool, true, false, ◌&&◌, ◌||◌, not, Option, Some, None, refl, ap, sym, ◌∙◌, subst, bytes_eq}
use Rattle.std.specs.Prelude.{if◌then◌else◌}
use Rattle.std.proofs.lemmas.Slice.Eq.{bytes_eq-Decides}
use Rattle.json_value.specs.Value as value
use Rattle.json_value.specs.Value.{Value, Items, Members, null, number, fraction, text, list, is_whole, same}
use Rattle.schema_defs.specs.declared.InstanceType.TheVariants.{Object, Array, Text, Integer}
use Rattle.schema_defs.specs.declared.InstanceType.{InstanceType}
use Rattle.schema_defs.specs.Texts.{Relations, IsLawful}
use Rattle.schema_defs.specs.Schema.{Types, one_type, many_types, Numbers, Texts, Plain, Schema, boolean, object, Same, no_same, same_value, Lists, no_lists, lists, Named, no_named, named, MaybeSchema, MaybeSchemas, no_list, the_list, Places, no_items, each_item, by_place, Document}
use Rattle.schema_defs.specs.Layer.{Judge, Parts, if_given, types_agree, is_kind, is_listed, numbers_agree, number_format_agrees, text_format_agrees, texts_agree, plain_agrees, of_kind_agrees, parts_agree, items_agree, list_rules_agree, member_rules_agree}
use Rattle.schema_defs.specs.Admits.{counts_as_absent, target, follow}
use Rattle.enum_defs.specs.Words.{without_lists, without_named, without_same}
use Rattle.merge_defs.specs.Outcome.{Outcome, fault, never, answer, narrowed, widened, has_way, noted, and_then, mapped, where_both}
use Rattle.merge_defs.specs.Alike.{same_texts, wholly, roughly}
use Rattle.enum_defs.specs.Exclusive.{are_apart}
use Rattle.merge_defs.specs.Leaves.{is_only, two_types, two_formats, two_numbers, two_texts, two_lists, values_of}
use Rattle.merge_defs.specs.Arrays.{two_lists_parts}
use Rattle.merge_defs.specs.Objects.{two_named, names_mix, unless_mixed, no_plain}
use Rattle.merge_defs.specs.Members.{with_same, refused, loses, lost_sizes}
use Rattle.merge_defs.specs.Merge.{body, two_objects, with_subschemas_layer, tidied, tidied_values, refuses_by_type, join_layer, by_references, target_merged, stands_for_target, reference_to, drops_siblings}
use Rattle.merge_laws.specs.Laws.{Meets, Given, IsProper, ProperTypes, ProperNumbers, ProperPlain, ProperLists, ProperNamed, ProperSame}
use Rattle.merge_laws.proofs.Steps.{no_no, yes_no, and-1, and-2, and-in, no_way-1, no_way-2, Always, Each, always-meets, meets-exactly, meets-said, meets-wanted, meets-in, meets-step, meets-then, meets-mapped, meets-where_both}
use Rattle.merge_laws.proofs.Leaves.{and-comm, listed_filter, type_sound, two_types_meet, format_agrees, two_formats_meet, two_lists_meet, listed_values_say}
use Rattle.merge_laws.proofs.Sizes.{and-pairs, texts_say, is_text, two_texts_meet}
use Rattle.merge_laws.proofs.Objects.{IsJudge, named_say}
use Rattle.merge_laws.proofs.Absent.{IsMember, two_named_meet}
use Rattle.merge_laws.proofs.Arrays.{lists_say, two_lists_parts_meet}
use Rattle.merge_laws.proofs.Facts.{item_judges_of, member_judges_of, list_rules_say, member_rules_say, is_list, is_object, Coherent, ListFacts, MemberFacts, list_facts, member_facts}
use Rattle.merge_defs.specs.Alike.{is_absent, nothing_beside}
use Rattle.merge_laws.proofs.Members.{meets-weigh, JudgesSame, same_says, with_same_meets}

abbrev pub numbers_say : Value → Numbers → Bool
numbers_say (number z) n = numbers_agree z n
numbers_say _ n = true

abbrev pub is_number : Value → Bool
is_number (number z) = true
is_number _ = false

-- numbers, as they are merged
abbrev pub NumbersMeet : Type 0
NumbersMeet =
    (v : Value) (c whole : Bool) → (c ≡ true → whole ≡ true → is_number v ≡ true) → (x y : Numbers) → ProperNumbers x → ProperNumbers y
    → Meets (Given ProperNumbers) (c && (numbers_say v x && numbers_say v y)) (λ o. c && if_given (numbers_say v) o) (two_numbers whole x y)

pub given_true : {A : Type 0} (h : A → Bool) (o : Option A) → ((a : A) → h a ≡ true) → if_given h o ≡ true
given_true h None k = refl
given_true h (Some a) k = k a

and-true : (b : Bool) → (b && true) ≡ b
and-true true = refl
and-true false = refl

number_order : (t e c n f : Bool) → (((t && e) && c) && (n && f)) ≡ (t && (f && (n && (true && (e && c)))))
number_order true true true true true = refl
number_order true true true true false = refl
number_order true true true false true = refl
number_order true true true false false = refl
number_order true true false true true = refl
number_order true true false true false = refl
number_order true true false false true = refl
number_order true true false false false = refl
number_order true false true true true = refl
number_order true false true true false = refl
number_order true false true false true = refl
number_order true false true false false = refl
number_order true false false true true = refl
number_order true false false true false = refl
number_order true false false false true = refl
number_order true false false false false = refl
number_order false true true true true = refl
number_order false true true true false = refl
number_order false true true false true = refl
number_order false true true false false = refl
number_order false true false true true = refl
number_order false true false true false = refl
number_order false true false false true = refl
number_order false true false false false = refl
number_order false false true true true = refl
number_order false false true true false = refl
number_order false false true false true = refl
number_order false false true false false = refl
number_order false false false true true = refl
number_order false false false true false = refl
number_order false false false false true = refl
number_order false false false false false = refl

text_order : (t e c x f : Bool) → (((t && e) && c) && (x && f)) ≡ (t && (f && (true && (x && (e && c)))))
text_order true true true true true = refl
text_order true true true true false = refl
text_order true true true false true = refl
text_order true true true false false = refl
text_order true true false true true = refl
text_order true true false true false = refl
text_order true true false false true = refl
text_order true true false false false = refl
text_order true false true true true = refl
text_order true false true true false = refl
text_order true false true false true = refl
text_order true false true false false = refl
text_order true false false true true = refl
text_order true false false true false = refl
text_order true false false false true = refl
text_order true false false false false = refl
text_order false true true true true = refl
text_order false true true true false = refl
text_order false true true false true = refl
text_order false true true false false = refl
text_order false true false true true = refl
text_order false true false true false = refl
text_order false true false false true = refl
text_order false true false false false = refl
text_order false false true true true = refl
text_order false false true true false = refl
text_order false false true false true = refl
text_order false false true false false = refl
text_order false false false true true = refl
text_order false false false true false = refl
text_order false false false false true = refl
text_order false false false false false = refl

other_order : (t e c : Bool) → (((t && e) && c) && true) ≡ (t && (true && (true && (true && (e && c)))))
other_order true true true = refl
other_order true true false = refl
other_order true false true = refl
other_order true false false = refl
other_order false true true = refl
other_order false true false = refl
other_order false false true = refl
other_order false false false = refl

module _ (r : Relations) (lawful : IsLawful r) where
  -- ---- what the keywords without subschemas say, in the order in which they are merged

  abbrev plain_says : Value → Plain → Bool
  plain_says v p = if_given (types_agree v) p.types && (if_given (format_agrees r lawful v) p.format && (if_given (numbers_say v) p.numbers && (if_given (texts_say r v) p.texts && if_given (is_listed v) (values_of p))))

  plain_other : (v : Value) (p : Plain) → ((f : List ℕ) → format_agrees r lawful v f ≡ true) → ((n : Numbers) → numbers_say v n ≡ true) → ((x : Texts) → texts_say r v x ≡ true)
      → (((if_given (types_agree v) p.types && if_given (is_listed v) p.enum_values) && if_given (same v) p.const_value) && true) ≡ plain_says v p
  plain_other v p f n x = other_order (if_given (types_agree v) p.types) (if_given (is_listed v) p.enum_values) (if_given (same v) p.const_value)
      ∙ (λ i. if_given (types_agree v) p.types && (sym (given_true (format_agrees r lawful v) p.format f) i && (sym (given_true (numbers_say v) p.numbers n) i && (sym (given_true (texts_say r v) p.texts x) i && sym (listed_values_say v p.enum_values p.const_value) i))))

  plain_split : (v : Value) (p : Plain) → plain_agrees r p v ≡ plain_says v p
  plain_split (number z) p = number_order (if_given (types_agree (number z)) p.types) _ _ (if_given (numbers_agree z) p.numbers) (if_given (number_format_agrees z) p.format)
      ∙ (λ i. if_given (types_agree (number z)) p.types && (if_given (number_format_agrees z) p.format && (if_given (numbers_agree z) p.numbers && (sym (given_true (texts_say r (number z)) p.texts (λ t. refl)) i && sym (listed_values_say (number z) p.enum_values p.const_value) i))))
  plain_split (text s) p = text_order (if_given (types_agree (text s)) p.types) _ _ (if_given (texts_agree r s) p.texts) (if_given (text_format_agrees r s) p.format)
      ∙ (λ i. if_given (types_agree (text s)) p.types && (if_given (text_format_agrees r s) p.format && (sym (given_true (numbers_say (text s)) p.numbers (λ t. refl)) i && (if_given (texts_agree r s) p.texts && sym (listed_values_say (text s) p.enum_values p.const_value) i))))
  plain_split v p = plain_other v p (λ f. refl) (λ n. refl) (λ t. refl)

  no_list_items : (p : Places) (a : MaybeSchema) → items_agree [] p a ≡ true
  no_list_items no_items a = refl
  no_list_items (each_item s) a = refl
  no_list_items (by_place ss) a = refl

  no_list_says : (ls : Lists) → lists_say false [] (λ c. true) ls ≡ true
  no_list_says no_lists = refl
  no_list_says (lists p a k d) = λ i. (no_list_items p a i && true) && true

  no_members_say : (name : List ℕ → Judge) (ns : Named) → named_say [] r name (λ c. true) ns ≡ true
  no_members_say name no_named = refl
  no_members_say name (named ps pp x xn d) = refl

  abbrev parts_says : Value → Parts → Lists → Named → Bool
  parts_says v parts ls ns = lists_say (is_list v) (item_judges_of v parts) (list_rules_say v) ls && named_say (member_judges_of v parts) r parts.name (member_rules_say v) ns

  lists_are : (xs : Items) (parts : Parts) (ls : Lists) (ns : Named) → parts_agree r (list xs) parts ls ns ≡ parts_says (list xs) parts ls ns
  lists_are xs parts no_lists ns = sym (no_members_say parts.name ns)
  lists_are xs parts (lists p a k d) ns = sym (and-true _) ∙ ap (λ b. lists_say true parts.items (list_rules_agree xs) (lists p a k d) && b) (sym (no_members_say parts.name ns))

  named_are : (ms : Members) (parts : Parts) (ls : Lists) (ns : Named) → parts_agree r (value.object ms) parts ls ns ≡ parts_says (value.object ms) parts ls ns
  named_are ms parts ls no_named = sym (and-true _ ∙ no_list_says ls)
  named_are ms parts ls (named ps pp x xn d) = ap (λ b. b && named_say parts.members r parts.name (member_rules_agree ms) (named ps pp x xn d)) (sym (no_list_says ls))

  parts_split : (v : Value) (parts : Parts) (ls : Lists) (ns : Named) → parts_agree r v parts ls ns ≡ parts_says v parts ls ns
  parts_split (list xs) parts ls ns = lists_are xs parts ls ns
  parts_split (value.object ms) parts ls ns = named_are ms parts ls ns
  parts_split v parts ls ns = λ i. sym (no_list_says ls) i && sym (no_members_say parts.name ns) i

  -- ---- what the merged type says of the value

  only_type : (k : InstanceType) (v : Value) (o : Option Types) → is_only k o ≡ true → if_given (types_agree v) o ≡ true → is_kind v k ≡ true
  only_type k v None h t = no_no h
  only_type k v (Some (one_type l)) h t = subst (λ x. is_kind v x ≡ true) (sym (type_sound k l h)) t
  only_type k v (Some (many_types ls)) h t = no_no h

  number_kind : (v : Value) → is_kind v Integer ≡ true → is_number v ≡ true
  number_kind (number z) h = refl
  number_kind null h = no_no h
  number_kind (value.boolean b) h = no_no h
  number_kind fraction h = no_no h
  number_kind (text s) h = no_no h
  number_kind (list xs) h = no_no h
  number_kind (value.object ms) h = no_no h

  text_kind : (v : Value) → is_kind v Text ≡ true → is_text v ≡ true
  text_kind (text s) h = refl
  text_kind (number z) h = no_no h
  text_kind null h = no_no h
  text_kind (value.boolean b) h = no_no h
  text_kind fraction h = no_no h
  text_kind (list xs) h = no_no h
  text_kind (value.object ms) h = no_no h

  list_kind : (v : Value) → is_kind v Array ≡ true → is_list v ≡ true
  list_kind (list xs) h = refl
  list_kind (text s) h = no_no h
  list_kind (number z) h = no_no h
  list_kind null h = no_no h
  list_kind (value.boolean b) h = no_no h
  list_kind fraction h = no_no h
  list_kind (value.object ms) h = no_no h

  object_kind : (v : Value) → is_kind v Object ≡ true → is_object v ≡ true
  object_kind (value.object ms) h = refl
  object_kind (list xs) h = no_no h
  object_kind (text s) h = no_no h
  object_kind (number z) h = no_no h
  object_kind null h = no_no h
  object_kind (value.boolean b) h = no_no h
  object_kind fraction h = no_no h

  -- ---- a body

  module _ (numbers_meet : NumbersMeet) (texts_same : (x y : Texts) → same_texts x y ≡ true → x ≡ y)
      (d : Document) (join less : Schema → Schema → Outcome Schema) (always : (a b : Schema) → IsProper a → IsProper b → Always IsProper (join a b))
      (v : Value) (whole : is_whole v ≡ true) (parts : Parts) (coherent : Coherent v parts)
      (items : Each (IsJudge join) (item_judges_of v parts)) (members : Each (IsMember join (counts_as_absent d.setting null)) (member_judges_of v parts))
      (J : Judge) (form : (p : Plain) (ls : Lists) (ns : Named) → p.reference ≡ None → J (object p no_same ls ns) ≡ (plain_agrees r p v && parts_agree r v parts ls ns))
    where
      abbrev U : {A : Type 0} → A → Type 0
      U a = Unit {0}

      abbrev Ts : Option Types → Bool
      Ts = if_given (types_agree v)

      abbrev Fs : Option (List ℕ) → Bool
      Fs = if_given (format_agrees r lawful v)

      abbrev Ns : Option Numbers → Bool
      Ns = if_given (numbers_say v)

      abbrev Xs : Option Texts → Bool
      Xs = if_given (texts_say r v)

      abbrev Ls : Lists → Bool
      Ls = lists_say (is_list v) (item_judges_of v parts) (list_rules_say v)

      abbrev Ms : Named → Bool
      Ms = named_say (member_judges_of v parts) r parts.name (member_rules_say v)

      abbrev Vs : Option (List Value) → Bool
      Vs = if_given (is_listed v)

      abbrev body_says : Plain → Lists → Named → Bool
      body_says p ls ns = plain_agrees r p v && parts_agree r v parts ls ns

      -- by steps
      steps_says : (p : Plain) (ls : Lists) (ns : Named) → body_says p ls ns ≡ (Ts p.types && (Fs p.format && (Ns p.numbers && (Xs p.texts && (Ls ls && (Ms ns && Vs (values_of p)))))))
      steps_says p ls ns = (λ i. plain_split v p i && parts_split v parts ls ns i) ∙ turn (Ts p.types) (Fs p.format) (Ns p.numbers) (Xs p.texts) (Vs (values_of p)) (Ls ls) (Ms ns)
        where
          last : (x w l m : Bool) → ((x && w) && (l && m)) ≡ (x && (l && (m && w)))
          last false w l m = refl
          last true true true true = refl
          last true true true false = refl
          last true true false m = refl
          last true false true true = refl
          last true false true false = refl
          last true false false m = refl

          turn : (t f n x w l m : Bool) → ((t && (f && (n && (x && w)))) && (l && m)) ≡ (t && (f && (n && (x && (l && (m && w))))))
          turn false f n x w l m = refl
          turn true false n x w l m = refl
          turn true true false x w l m = refl
          turn true true true x w l m = last x w l m

      pair_steps : (a b c d e f g a' b' c' d' e' f' g' : Bool)
          → ((a && (b && (c && (d && (e && (f && g)))))) && (a' && (b' && (c' && (d' && (e' && (f' && g'))))))) ≡ ((a && a') && ((b && b') && ((c && c') && ((d && d') && ((e && e') && ((f && f') && (g && g')))))))
      pair_steps a b c d e f g a' b' c' d' e' f' g' =
          and-pairs a _ a' _ ∙ ap (λ x. (a && a') && x) (and-pairs b _ b' _ ∙ ap (λ x. (b && b') && x) (and-pairs c _ c' _ ∙ ap (λ x. (c && c') && x) (and-pairs d _ d' _ ∙ ap (λ x. (d && d') && x)
          (and-pairs e _ e' _ ∙ ap (λ x. (e && e') && x) (and-pairs f g f' g')))))

      nest : (a b c d e f g : Bool) → (a && (b && (c && (d && (e && (f && g)))))) ≡ ((((((a && b) && c) && d) && e) && f) && g)
      nest false b c d e f g = refl
      nest true false c d e f g = refl
      nest true true false d e f g = refl
      nest true true true false e f g = refl
      nest true true true true false f g = refl
      nest true true true true true f g = refl

      abbrev made : Option Types → Option (List ℕ) → Option Numbers → Option Texts → Lists → Named → Option (List Value) → Schema
      made t f n x l m w = object (record no_plain { types = t; format = f; numbers = n; texts = x; enum_values = w }) no_same l m

      known : (k : InstanceType) (types : Option Types) (c : Bool) → (c ≡ true → Ts types ≡ true) → c ≡ true → is_only k types ≡ true → is_kind v k ≡ true
      known k types c f h o = only_type k v types o (f h)

      module _ (p : Plain) (ls : Lists) (ns : Named) (q : Plain) (ms : Lists) (os : Named) (pp : ProperPlain p) (pl : ProperLists ls) (pn : ProperNamed ns) (qp : ProperPlain q) (ql : ProperLists ms) (qn : ProperNamed os) where
        abbrev W1 : Bool
        W1 = Ts p.types && Ts q.types

        abbrev W2 : Bool
        W2 = Fs p.format && Fs q.format

        abbrev W3 : Bool
        W3 = Ns p.numbers && Ns q.numbers

        abbrev W4 : Bool
        W4 = Xs p.texts && Xs q.texts

        abbrev W5 : Bool
        W5 = Ls ls && Ls ms

        abbrev W6 : Bool
        W6 = Ms ns && Ms os

        abbrev W7 : Bool
        W7 = Vs (values_of p) && Vs (values_of q)

        abbrev K6 : Option Types → Option (List ℕ) → Option Numbers → Option Texts → Lists → Named → Outcome Schema
        K6 t f n x l m = mapped (made t f n x l m) (where_both two_lists (values_of p) (values_of q))

        abbrev K5 : Option Types → Option (List ℕ) → Option Numbers → Option Texts → Lists → Outcome Schema
        K5 t f n x l = and_then (two_named join (counts_as_absent d.setting null) (is_only Object t) ns os) (K6 t f n x l)

        abbrev K4 : Option Types → Option (List ℕ) → Option Numbers → Option Texts → Outcome Schema
        K4 t f n x = and_then (two_lists_parts join (is_only Array t) ls ms) (K5 t f n x)

        abbrev K3 : Option Types → Option (List ℕ) → Option Numbers → Outcome Schema
        K3 t f n = and_then (where_both (two_texts (is_only Text t)) p.texts q.texts) (K4 t f n)

        abbrev K2 : Option Types → Option (List ℕ) → Outcome Schema
        K2 t f = and_then (where_both (two_numbers (is_only Integer t)) p.numbers q.numbers) (K3 t f)

        abbrev K1 : Option Types → Outcome Schema
        K1 t = and_then (where_both two_formats p.format q.format) (K2 t)

        k6 : (t : Option Types) (f : Option (List ℕ)) (n : Option Numbers) (x : Option Texts) (l : Lists) (m : Named) → Given ProperTypes t → Given ProperNumbers n → ProperLists l → ProperNamed m
            → Meets IsProper ((((((Ts t && Fs f) && Ns n) && Xs x) && Ls l) && Ms m) && W7) J (K6 t f n x l m)
        k6 t f n x l m pt pn' pl' pm = meets-mapped (Given U) IsProper (C && W7) (λ w. C && Vs w) J (made t f n x l m) (where_both two_lists (values_of p) (values_of q))
            (meets-where_both U C (is_listed v) two_lists (values_of p) (values_of q) (no_ask (values_of p)) (no_ask (values_of q)) (λ a b pa pb. meets-in (Given U) C (is_listed v a && is_listed v b) Vs (two_lists a b) (two_lists_meet v a b)))
            (λ w pw. ((pt, pn'), tt, pl', pm))
            (λ w pw. form (record no_plain { types = t; format = f; numbers = n; texts = x; enum_values = w }) l m refl ∙ steps_says (record no_plain { types = t; format = f; numbers = n; texts = x; enum_values = w }) l m
            ∙ ap (λ b. Ts t && (Fs f && (Ns n && (Xs x && (Ls l && (Ms m && b)))))) (alone w) ∙ nest (Ts t) (Fs f) (Ns n) (Xs x) (Ls l) (Ms m) (Vs w))
          where
            C : Bool
            C = ((((Ts t && Fs f) && Ns n) && Xs x) && Ls l) && Ms m

            no_ask : (o : Option (List Value)) → Given U o
            no_ask None = tt
            no_ask (Some vs) = tt

            alone : (w : Option (List Value)) → Vs (values_of (record no_plain { enum_values = w })) ≡ Vs w
            alone None = refl
            alone (Some vs) = refl

        k5 : (t : Option Types) (f : Option (List ℕ)) (n : Option Numbers) (x : Option Texts) (l : Lists) → Given ProperTypes t → Given ProperNumbers n → ProperLists l
            → Meets IsProper (((((Ts t && Fs f) && Ns n) && Xs x) && Ls l) && (W6 && W7)) J (K5 t f n x l)
        k5 t f n x l pt pn' pl' = meets-step ProperNamed IsProper ((((Ts t && Fs f) && Ns n) && Xs x) && Ls l) W6 W7 Ms J (two_named join (counts_as_absent d.setting null) (is_only Object t) ns os) (K6 t f n x l)
            (two_named_meet join always (counts_as_absent d.setting null) (member_judges_of v parts) members r parts.name ((((Ts t && Fs f) && Ns n) && Xs x) && Ls l) (is_only Object t) (member_rules_say v) facts.joined_say facts.crossed_say facts.there ns os pn qn)
            (λ m pm. k6 t f n x l m pt pn' pl' pm)
          where
            typed : ((((Ts t && Fs f) && Ns n) && Xs x) && Ls l) ≡ true → Ts t ≡ true
            typed h = and-1 (Ts t) _ (and-1 (Ts t && Fs f) _ (and-1 ((Ts t && Fs f) && Ns n) _ (and-1 (((Ts t && Fs f) && Ns n) && Xs x) _ h)))

            facts : MemberFacts (member_judges_of v parts) (member_rules_say v) ((((Ts t && Fs f) && Ns n) && Xs x) && Ls l) (is_only Object t)
            facts = member_facts v parts coherent ((((Ts t && Fs f) && Ns n) && Xs x) && Ls l) (is_only Object t) (λ h o. object_kind v (only_type Object v t o (typed h)))

        k4 : (t : Option Types) (f : Option (List ℕ)) (n : Option Numbers) (x : Option Texts) → Given ProperTypes t → Given ProperNumbers n
            → Meets IsProper ((((Ts t && Fs f) && Ns n) && Xs x) && (W5 && (W6 && W7))) J (K4 t f n x)
        k4 t f n x pt pn' = meets-step ProperLists IsProper (((Ts t && Fs f) && Ns n) && Xs x) W5 (W6 && W7) Ls J (two_lists_parts join (is_only Array t) ls ms) (K5 t f n x)
            (two_lists_parts_meet join always (item_judges_of v parts) items (is_list v) (is_only Array t) (((Ts t && Fs f) && Ns n) && Xs x) (list_rules_say v) facts.joined_say facts.crossed_say facts.most facts.least facts.limited facts.silent ls ms pl ql)
            (λ l pl'. k5 t f n x l pt pn' pl')
          where
            typed : (((Ts t && Fs f) && Ns n) && Xs x) ≡ true → Ts t ≡ true
            typed h = and-1 (Ts t) _ (and-1 (Ts t && Fs f) _ (and-1 ((Ts t && Fs f) && Ns n) _ h))

            facts : ListFacts (item_judges_of v parts) (list_rules_say v) (((Ts t && Fs f) && Ns n) && Xs x) (is_only Array t)
            facts = list_facts v parts coherent (((Ts t && Fs f) && Ns n) && Xs x) (is_only Array t) (λ h o. list_kind v (only_type Array v t o (typed h)))

        no_ask_texts : (o : Option Texts) → Given (λ (a : Texts). Unit {0}) o
        no_ask_texts None = tt
        no_ask_texts (Some x) = tt

        no_ask_format : (o : Option (List ℕ)) → Given (λ (a : List ℕ). Unit {0}) o
        no_ask_format None = tt
        no_ask_format (Some x) = tt

        k3 : (t : Option Types) (f : Option (List ℕ)) (n : Option Numbers) → Given ProperTypes t → Given ProperNumbers n → Meets IsProper (((Ts t && Fs f) && Ns n) && (W4 && (W5 && (W6 && W7)))) J (K3 t f n)
        k3 t f n pt pn' = meets-step (Given (λ (a : Texts). Unit {0})) IsProper ((Ts t && Fs f) && Ns n) W4 (W5 && (W6 && W7)) Xs J (where_both (two_texts (is_only Text t)) p.texts q.texts) (K4 t f n)
            (meets-where_both (λ (a : Texts). Unit {0}) ((Ts t && Fs f) && Ns n) (texts_say r v) (two_texts (is_only Text t)) p.texts q.texts (no_ask_texts p.texts) (no_ask_texts q.texts)
            (λ a b pa pb. two_texts_meet r v ((Ts t && Fs f) && Ns n) (is_only Text t) (λ h o. text_kind v (only_type Text v t o (and-1 (Ts t) _ (and-1 (Ts t && Fs f) _ h)))) texts_same a b))
            (λ x px. k4 t f n x pt pn')

        k2 : (t : Option Types) (f : Option (List ℕ)) → Given ProperTypes t → Meets IsProper ((Ts t && Fs f) && (W3 && (W4 && (W5 && (W6 && W7))))) J (K2 t f)
        k2 t f pt = meets-step (Given ProperNumbers) IsProper (Ts t && Fs f) W3 (W4 && (W5 && (W6 && W7))) Ns J (where_both (two_numbers (is_only Integer t)) p.numbers q.numbers) (K3 t f)
            (meets-where_both ProperNumbers (Ts t && Fs f) (numbers_say v) (two_numbers (is_only Integer t)) p.numbers q.numbers pp.1 qp.1
            (λ a b pa pb. numbers_meet v (Ts t && Fs f) (is_only Integer t) (λ h o. number_kind v (only_type Integer v t o (and-1 (Ts t) _ h))) a b pa pb))
            (λ n pn'. k3 t f n pt pn')

        k1 : (t : Option Types) → Given ProperTypes t → Meets IsProper (Ts t && (W2 && (W3 && (W4 && (W5 && (W6 && W7)))))) J (K1 t)
        k1 t pt = meets-step (Given (λ (a : List ℕ). Unit {0})) IsProper (Ts t) W2 (W3 && (W4 && (W5 && (W6 && W7)))) Fs J (where_both two_formats p.format q.format) (K2 t)
            (meets-where_both (λ (a : List ℕ). Unit {0}) (Ts t) (format_agrees r lawful v) two_formats p.format q.format (no_ask_format p.format) (no_ask_format q.format)
            (λ a b pa pb. meets-in (Given (λ (a : List ℕ). Unit {0})) (Ts t) (format_agrees r lawful v a && format_agrees r lawful v b) Fs (two_formats a b) (two_formats_meet r lawful v a b)))
            (λ f pf. k2 t f pt)

        pub body_meets : Meets IsProper (body_says p ls ns && body_says q ms os) J (body d join less p ls ns q ms os)
        body_meets = meets-wanted IsProper (W1 && (W2 && (W3 && (W4 && (W5 && (W6 && W7)))))) (body_says p ls ns && body_says q ms os) J (body d join less p ls ns q ms os)
            (sym ((λ i. steps_says p ls ns i && steps_says q ms os i) ∙ pair_steps (Ts p.types) (Fs p.format) (Ns p.numbers) (Xs p.texts) (Ls ls) (Ms ns) (Vs (values_of p)) (Ts q.types) (Fs q.format) (Ns q.numbers) (Xs q.texts) (Ls ms) (Ms os) (Vs (values_of q))))
            (meets-step (Given ProperTypes) IsProper true W1 (W2 && (W3 && (W4 && (W5 && (W6 && W7))))) Ts J (where_both two_types p.types q.types) K1
            (meets-where_both ProperTypes true (types_agree v) two_types p.types q.types pp.0 qp.0 (λ a b pa pb. two_types_meet v whole a b pa pb))
            (λ t pt. k1 t pt))

-- ---- objects and references

module _ (r : Relations) (lawful : IsLawful r) (numbers_meet : NumbersMeet) (texts_same : (x y : Texts) → same_texts x y ≡ true → x ≡ y)
    (d : Document) (proper_target : (q : List ℕ) (t : Schema) → target d q ≡ Some t → IsProper t)
    (join less : Schema → Schema → Outcome Schema)
    (v : Value) (whole : is_whole v ≡ true) (parts : Parts) (coherent : Coherent v parts)
    (J : Judge) (is : IsJudge join J)
    (takes : (a b : Schema) → IsProper a → IsProper b → Meets IsProper (J a && not (J b)) J (less a b))
    (items : Each (IsJudge join) (item_judges_of v parts)) (members : Each (IsMember join (counts_as_absent d.setting null)) (member_judges_of v parts))
    (same_judge : JudgesSame J)
    (apart : (s t : Schema) → are_apart d s t ≡ true → J s ≡ true → J t ≡ true → ⊥)
    (form : (p : Plain) (ss : Same) (ls : Lists) (ns : Named) → J (object p ss ls ns) ≡ (((plain_agrees r p v && if_given (λ q. follow J (target d q)) p.reference) && parts_agree r v parts ls ns) && same_says J ss))
  where
    abbrev always : (a b : Schema) → IsProper a → IsProper b → Always IsProper (join a b)
    always a b p q = always-meets IsProper (J a && J b) J (join a b) (is.merges a b p q)

    abbrev R : List ℕ → Bool
    R q = follow J (target d q)

    abbrev Body : Plain → Lists → Named → Bool
    Body p ls ns = plain_agrees r p v && parts_agree r v parts ls ns

    bare_form : (p : Plain) (ss : Same) (ls : Lists) (ns : Named) → p.reference ≡ None → J (object p ss ls ns) ≡ (Body p ls ns && same_says J ss)
    bare_form p ss ls ns e = form p ss ls ns ∙ ap (λ o. ((plain_agrees r p v && if_given R o) && parts_agree r v parts ls ns) && same_says J ss) e ∙ ap (λ b. (b && parts_agree r v parts ls ns) && same_says J ss) (and-true (plain_agrees r p v))

    body_form : (p : Plain) (ls : Lists) (ns : Named) → p.reference ≡ None → J (object p no_same ls ns) ≡ Body p ls ns
    body_form p ls ns e = bare_form p no_same ls ns e ∙ and-true (Body p ls ns)

    refused_meets : (w : Bool) (ss : Same) (o : Outcome Schema) → Meets IsProper w J o → Meets IsProper w J (refused ss o)
    refused_meets w no_same o m = m
    refused_meets w (same_value all any one none true) o m = tt
    refused_meets w (same_value all any one none false) o m = go all any one
      where
        go : (all any one : MaybeSchemas) → Meets IsProper w J (refused (same_value all any one none false) o)
        go all no_list one = m
        go all (the_list ss) no_list = m
        go all (the_list ss) (the_list ts) = tt

    unless_meets : (w b : Bool) (o : Outcome Schema) → Meets IsProper w J o → Meets IsProper w J (unless_mixed b o)
    unless_meets w true o m = tt
    unless_meets w false o m = m

    -- values that the types refuse are not admitted
    tidied_says : (s : Schema) → J (tidied s) ≡ J s
    tidied_says (boolean b) = refl
    tidied_says (object p ss ls ns) = form (record p { enum_values = tidied_values p p.enum_values }) ss ls ns
        ∙ ap (λ b. ((b && if_given R p.reference) && parts_agree r v parts ls ns) && same_says J ss) (plain_tidied p) ∙ sym (form p ss ls ns)
      where
        shuffle : (t e c k : Bool) → (((t && (e && not (not (t && c)))) && c) && k) ≡ (((t && e) && c) && k)
        shuffle false e c k = refl
        shuffle true false c k = refl
        shuffle true true true k = refl
        shuffle true true false k = refl

        kind_tidied : (w : Value) (p : Plain) (o : Option (List Value)) → of_kind_agrees r (record p { enum_values = o }) w ≡ of_kind_agrees r p w
        kind_tidied (number z) p o = refl
        kind_tidied (text s) p o = refl
        kind_tidied _ p o = refl

        plain_tidied : (p : Plain) → plain_agrees r (record p { enum_values = tidied_values p p.enum_values }) v ≡ plain_agrees r p v
        plain_tidied p = ap (λ k. ((if_given (types_agree v) p.types && if_given (is_listed v) (tidied_values p p.enum_values)) && if_given (same v) p.const_value) && k) (kind_tidied v p (tidied_values p p.enum_values)) ∙ go p.enum_values
          where
            go : (o : Option (List Value)) → (((if_given (types_agree v) p.types && if_given (is_listed v) (tidied_values p o)) && if_given (same v) p.const_value) && of_kind_agrees r p v)
                ≡ (((if_given (types_agree v) p.types && if_given (is_listed v) o) && if_given (same v) p.const_value) && of_kind_agrees r p v)
            go None = refl
            go (Some vs) = ap (λ b. ((if_given (types_agree v) p.types && b) && if_given (same v) p.const_value) && of_kind_agrees r p v) (listed_filter v (λ w. not (refuses_by_type p w)) vs)
                ∙ shuffle (if_given (types_agree v) p.types) (is_listed v vs) (if_given (same v) p.const_value) (of_kind_agrees r p v)

    proper_tidied : (s : Schema) → IsProper s → IsProper (tidied s)
    proper_tidied (boolean b) p = p
    proper_tidied (object p ss ls ns) h = h

    with_meets : (ss : Same) → ProperSame ss → (b : Schema) → IsProper b → Meets IsProper (J b && same_says J ss) J (with_same d join less ss b)
    with_meets = with_same_meets d join less J is.merges takes same_judge apart

    two_objects_meet : (p : Plain) (ss : Same) (ls : Lists) (ns : Named) (q : Plain) (tt' : Same) (ms : Lists) (os : Named) → IsProper (object p ss ls ns) → IsProper (object q tt' ms os) → p.reference ≡ None → q.reference ≡ None
        → Meets IsProper (J (object p ss ls ns) && J (object q tt' ms os)) J (two_objects d join less p ss ls ns q tt' ms os)
    two_objects_meet p ss ls ns q tt' ms os hp hq ep eq = meets-wanted IsProper (((Body p ls ns && Body q ms os) && same_says J ss) && same_says J tt') _ J _
        (turn (Body p ls ns) (Body q ms os) (same_says J ss) (same_says J tt') ∙ (λ i. sym (bare_form p ss ls ns ep) i && sym (bare_form q tt' ms os eq) i))
        (refused_meets (((Body p ls ns && Body q ms os) && same_says J ss) && same_says J tt') ss _ (refused_meets (((Body p ls ns && Body q ms os) && same_says J ss) && same_says J tt') tt' _ (unless_meets (((Body p ls ns && Body q ms os) && same_says J ss) && same_says J tt') (names_mix ns os) _
        (after (Body p ls ns && Body q ms os) (same_says J ss) (same_says J tt') (body d join less p ls ns q ms os) (λ b. and_then (with_same d join less ss b) (λ b'. mapped tidied (with_same d join less tt' b')))
        (body_meets r lawful numbers_meet texts_same d join less always v whole parts coherent items members J body_form p ls ns q ms os hp.0 hp.2 hp.3 hq.0 hq.2 hq.3)
        (λ b pb. last (J b && same_says J ss) (same_says J tt') (with_same d join less ss b) (λ b'. mapped tidied (with_same d join less tt' b')) (with_meets ss hp.1 b pb)
        (λ b' pb'. meets-mapped IsProper IsProper (J b' && same_says J tt') J J tidied (with_same d join less tt' b') (with_meets tt' hq.1 b' pb') (λ s ps. proper_tidied s ps) (λ s ps. tidied_says s)))))))
      where
        turn : (a b x y : Bool) → (((a && b) && x) && y) ≡ ((a && x) && (b && y))
        turn false b x y = refl
        turn true false true y = refl
        turn true false false y = refl
        turn true true x y = refl

        last : (x y : Bool) (o : Outcome Schema) (k : Schema → Outcome Schema) → Meets IsProper x J o → ((b : Schema) → IsProper b → Meets IsProper (J b && y) J (k b)) → Meets IsProper (x && y) J (and_then o k)
        last x y o k m n = meets-then IsProper IsProper (x && y) (λ b. J b && y) J o k
            (meets-said IsProper IsProper (y && x) (x && y) (λ b. y && J b) (λ b. J b && y) o (meets-in IsProper y x J o m) (λ a p. p) (and-comm y x) (λ a p. and-comm y (J a))) n

        after : (x y z : Bool) (o : Outcome Schema) (k : Schema → Outcome Schema) → Meets IsProper x J o → ((b : Schema) → IsProper b → Meets IsProper ((J b && y) && z) J (k b)) → Meets IsProper ((x && y) && z) J (and_then o k)
        after x y z o k m n = meets-wanted IsProper (x && (y && z)) ((x && y) && z) J (and_then o k) (sym (assoc x y z)) (last x (y && z) o k m (λ b pb. meets-wanted IsProper ((J b && y) && z) (J b && (y && z)) J (k b) (assoc (J b) y z) (n b pb)))
          where
            assoc : (a b c : Bool) → ((a && b) && c) ≡ (a && (b && c))
            assoc true b c = refl
            assoc false b c = refl

    pub with_subschemas_meet : (b : Schema) (ss : Same) → IsProper b → ProperSame ss → Meets IsProper (J b && same_says J ss) J (with_subschemas_layer d join less b ss)
    with_subschemas_meet b ss pb ps = refused_meets (J b && same_says J ss) ss _
        (meets-mapped IsProper IsProper (J b && same_says J ss) J J tidied (with_same d join less ss b) (with_meets ss ps b pb) (λ s p. proper_tidied s p) (λ s p. tidied_says s))

    -- ---- references

    reference_says : (q : List ℕ) → J (reference_to q) ≡ R q
    reference_says q = form (record no_plain { reference = Some q }) no_same no_lists no_named ∙ go v
      where
        drop : (b : Bool) → (((true && b) && true) && true) ≡ b
        drop true = refl
        drop false = refl

        go : (v : Value) → (((plain_agrees r (record no_plain { reference = Some q }) v && R q) && parts_agree r v parts no_lists no_named) && true) ≡ R q
        go (number z) = drop (R q)
        go (text s) = drop (R q)
        go (list xs) = drop (R q)
        go (value.object ms) = drop (R q)
        go _ = drop (R q)

    absent_none : {A : Type 0} (o : Option A) → is_absent o ≡ true → o ≡ None
    absent_none None h = refl
    absent_none (Some x) h = no_no h

    -- a reference without siblings says what its target says
    alone_says : (p : Plain) (ss : Same) (ls : Lists) (ns : Named) (q : List ℕ) → p.reference ≡ Some q → drops_siblings p ss ls ns ≡ false → J (object p ss ls ns) ≡ R q
    alone_says p ss ls ns q e h = form p ss ls ns ∙ go ss ls ns (is_so _ h)
      where
        is_so : (b : Bool) → not b ≡ false → b ≡ true
        is_so true h = refl
        is_so false h = sym h

        drop : (b : Bool) → (((true && b) && true) && true) ≡ b
        drop true = refl
        drop false = refl

        nothing : (v : Value) (p : Plain) → nothing_beside p ≡ true → plain_agrees r p v ≡ true
        nothing v p k =
            let k1 = and-2 (is_absent p.types) _ k in
            let k2 = and-2 (is_absent p.enum_values) _ k1 in
            let k3 = and-2 (is_absent p.const_value) _ k2 in
            let k4 = and-2 (is_absent p.format) _ k3 in
            (λ i. ((if_given (types_agree v) (absent_none p.types (and-1 (is_absent p.types) _ k) i) && if_given (is_listed v) (absent_none p.enum_values (and-1 (is_absent p.enum_values) _ k1) i)) && if_given (same v) (absent_none p.const_value (and-1 (is_absent p.const_value) _ k2) i)) && of_kind_agrees r p v)
            ∙ kind v (absent_none p.format (and-1 (is_absent p.format) _ k3)) (absent_none p.numbers (and-1 (is_absent p.numbers) _ k4)) (absent_none p.texts (and-2 (is_absent p.numbers) _ k4))
          where
            kind : (v : Value) → p.format ≡ None → p.numbers ≡ None → p.texts ≡ None → of_kind_agrees r p v ≡ true
            kind (number z) f n x = λ i. if_given (numbers_agree z) (n i) && if_given (number_format_agrees z) (f i)
            kind (text s) f n x = λ i. if_given (texts_agree r s) (x i) && if_given (text_format_agrees r s) (f i)
            kind _ f n x = refl

        no_parts : (v : Value) → parts_agree r v parts no_lists no_named ≡ true
        no_parts (list xs) = refl
        no_parts (value.object ms) = refl
        no_parts _ = refl

        go : (ss : Same) (ls : Lists) (ns : Named) → (nothing_beside p && (without_same ss && (without_lists ls && without_named ns))) ≡ true
            → (((plain_agrees r p v && if_given R p.reference) && parts_agree r v parts ls ns) && same_says J ss) ≡ R q
        go no_same no_lists no_named k = (λ i. ((nothing v p (and-1 (nothing_beside p) _ k) i && if_given R (e i)) && no_parts v i) && true) ∙ drop (R q)
        go (same_value a b c x y) ls ns k = no_no (and-2 (nothing_beside p) _ k)
        go no_same (lists a b c x) ns k = no_no (and-2 (nothing_beside p) _ k)
        go no_same no_lists (named a b c x y) k = no_no (and-2 (nothing_beside p) _ k)

    -- the merge of a target, or the reference for it
    target_meets : (q : List ℕ) (w : Bool) (with_it : Schema → Outcome Schema) → ((t : Schema) → IsProper t → Meets IsProper (J t && w) J (with_it t)) → Meets IsProper (R q && w) J (target_merged q (target d q) with_it)
    target_meets q w with_it m = go (target d q) refl
      where
        go : (o : Option Schema) → target d q ≡ o → Meets IsProper (R q && w) J (target_merged q o with_it)
        go None e = λ n t. no_no (sym (ap (follow J) e) ∙ and-1 (R q) w t)
        go (Some t) e = cases (with_it t) (m t (proper_target q t e))
          where
            R_t : R q ≡ J t
            R_t = ap (follow J) e

            lost_none : (b : Bool) → has_way widened (lost_sizes b) ≡ false → b ≡ false
            lost_none true k = k
            lost_none false k = refl

            is_wholly : (b : Bool) → not b ≡ false → b ≡ true
            is_wholly true k = refl
            is_wholly false k = sym k

            cases : (o : Outcome Schema) → Meets IsProper (J t && w) J o → Meets IsProper (R q && w) J (and_then o (stands_for_target q t))
            cases (fault f) h = tt
            cases (never ns) h = λ n k. h n (sym (ap (λ b. b && w) R_t) ∙ k)
            cases (answer ns s) h = stand (roughly s t)
              where
                stand : (b : Bool) → Meets IsProper (R q && w) J (noted ns (if b then answer (lost_sizes (loses s t)) (reference_to q) else answer [] s))
                stand true = (
                  ((tt, tt), tt, tt, tt),
                  (λ n k. reference_says q ∙ and-1 (R q) w k),
                  λ n k.
                      let a = sym R_t ∙ (sym (reference_says q) ∙ k) in
                      let b = same_judge.of_wholly s t (is_wholly (wholly s t) (lost_none (loses s t) (no_way-2 widened ns (lost_sizes (loses s t)) n))) in
                      ap (λ x. x && w) R_t ∙ h.2 (no_way-1 widened ns (lost_sizes (loses s t)) n) (b ∙ a),
                )
                stand false = (h.0, (λ n k. h.1 (no_way-1 narrowed ns [] n) (sym (ap (λ b. b && w) R_t) ∙ k)), λ n k. ap (λ b. b && w) R_t ∙ h.2 (no_way-1 widened ns [] n) k)

    sibling_meets : (p : Plain) (ss : Same) (ls : Lists) (ns : Named) (q : List ℕ) (w : Bool) (o : Outcome Schema) → p.reference ≡ Some q → Meets IsProper (R q && w) J o
        → Meets IsProper (J (object p ss ls ns) && w) J (noted (lost_sizes (drops_siblings p ss ls ns)) o)
    sibling_meets p ss ls ns q w o e m = meets-weigh IsProper (J (object p ss ls ns) && w) (R q && w) J (lost_sizes (drops_siblings p ss ls ns)) o m
        (λ n t. and-in (R q) w (refers p ss ls ns q e (and-1 (J (object p ss ls ns)) w t)) (and-2 (J (object p ss ls ns)) w t))
        (λ n t. and-in (J (object p ss ls ns)) w (alone_says p ss ls ns q e (lost_none (drops_siblings p ss ls ns) n) ∙ and-1 (R q) w t) (and-2 (R q) w t))
      where
        lost_none : (b : Bool) → has_way widened (lost_sizes b) ≡ false → b ≡ false
        lost_none true k = k
        lost_none false k = refl

        refers : (p : Plain) (ss : Same) (ls : Lists) (ns : Named) (q : List ℕ) → p.reference ≡ Some q → J (object p ss ls ns) ≡ true → R q ≡ true
        refers p ss ls ns q e t =
            let u = sym (form p ss ls ns) ∙ t in
            sym (ap (if_given R) e) ∙ and-2 (plain_agrees r p v) _ (and-1 (plain_agrees r p v && if_given R p.reference) _ (and-1 ((plain_agrees r p v && if_given R p.reference) && parts_agree r v parts ls ns) _ u))

    pub by_references_meet : (p : Plain) (ss : Same) (ls : Lists) (ns : Named) (q : Plain) (tt' : Same) (ms : Lists) (os : Named) → IsProper (object p ss ls ns) → IsProper (object q tt' ms os)
        → (f g : Option (List ℕ)) → p.reference ≡ f → q.reference ≡ g
        → Meets IsProper (J (object p ss ls ns) && J (object q tt' ms os)) J (by_references d join less p ss ls ns q tt' ms os f g)
    by_references_meet p ss ls ns q tt' ms os hp hq None None ep eq = two_objects_meet p ss ls ns q tt' ms os hp hq ep eq
    by_references_meet p ss ls ns q tt' ms os hp hq None (Some g) ep eq = meets-wanted IsProper (J (object q tt' ms os) && J (object p ss ls ns)) (J (object p ss ls ns) && J (object q tt' ms os)) J
        (noted (lost_sizes (drops_siblings q tt' ms os)) (target_merged g (target d g) (λ t. join t (object p ss ls ns)))) (and-comm (J (object q tt' ms os)) (J (object p ss ls ns)))
        (sibling_meets q tt' ms os g (J (object p ss ls ns)) (target_merged g (target d g) (λ t. join t (object p ss ls ns))) eq
        (target_meets g (J (object p ss ls ns)) (λ t. join t (object p ss ls ns)) (λ t pt. is.merges t (object p ss ls ns) pt hp)))
    by_references_meet p ss ls ns q tt' ms os hp hq (Some f) None ep eq = sibling_meets p ss ls ns f (J (object q tt' ms os)) (target_merged f (target d f) (λ t. join t (object q tt' ms os))) ep
        (target_meets f (J (object q tt' ms os)) (λ t. join t (object q tt' ms os)) (λ t pt. is.merges t (object q tt' ms os) pt hq))
    by_references_meet p ss ls ns q tt' ms os hp hq (Some f) (Some g) ep eq = go (bytes_eq f g) refl
      where
        lost_or : (a b : Bool) → has_way widened (lost_sizes (a || b)) ≡ false → (a ≡ false) × (b ≡ false)
        lost_or true b k = (k, no_no (sym k))
        lost_or false true k = (refl, k)
        lost_or false false k = (refl, refl)

        refers : (p : Plain) (ss : Same) (ls : Lists) (ns : Named) (q : List ℕ) → p.reference ≡ Some q → J (object p ss ls ns) ≡ true → R q ≡ true
        refers p ss ls ns q e t =
            let u = sym (form p ss ls ns) ∙ t in
            sym (ap (if_given R) e) ∙ and-2 (plain_agrees r p v) _ (and-1 (plain_agrees r p v && if_given R p.reference) _ (and-1 ((plain_agrees r p v && if_given R p.reference) && parts_agree r v parts ls ns) _ u))

        go : (b : Bool) → bytes_eq f g ≡ b → Meets IsProper (J (object p ss ls ns) && J (object q tt' ms os)) J
            (if b then answer (lost_sizes (drops_siblings p ss ls ns || drops_siblings q tt' ms os)) (reference_to f) else noted (lost_sizes (drops_siblings p ss ls ns)) (target_merged f (target d f) (λ t. join t (object q tt' ms os))))
        go true h = (
          ((tt, tt), tt, tt, tt),
          (λ n t. reference_says f ∙ refers p ss ls ns f ep (and-1 (J (object p ss ls ns)) _ t)),
          λ n t.
              let k = lost_or (drops_siblings p ss ls ns) (drops_siblings q tt' ms os) n in
              let u = sym (reference_says f) ∙ t in
              let e : R f ≡ R g = ap R ((bytes_eq-Decides f g).0 h) in
              and-in (J (object p ss ls ns)) (J (object q tt' ms os)) (alone_says p ss ls ns f ep k.0 ∙ u) (alone_says q tt' ms os g eq k.1 ∙ (sym e ∙ u)),
        )
        go false h = sibling_meets p ss ls ns f (J (object q tt' ms os)) (target_merged f (target d f) (λ t. join t (object q tt' ms os))) ep
            (target_meets f (J (object q tt' ms os)) (λ t. join t (object q tt' ms os)) (λ t pt. is.merges t (object q tt' ms os) pt hq))

    pub join_layer_meets : (a b : Schema) → IsProper a → IsProper b → Meets IsProper (J a && J b) J (join_layer d join less a b)
    join_layer_meets (boolean false) b p q = λ n t. yes_no (J (boolean false)) (is.at_boolean false) (and-1 (J (boolean false)) _ t)
    join_layer_meets (boolean true) b p q = meets-exactly IsProper (J (boolean true) && J b) J [] b q (sym (ap (λ x. x && J b) (is.at_boolean true)))
    join_layer_meets (object a s l n) (boolean false) p q = λ n' t. yes_no (J (boolean false)) (is.at_boolean false) (and-2 (J (object a s l n)) _ t)
    join_layer_meets (object a s l n) (boolean true) p q = meets-exactly IsProper (J (object a s l n) && J (boolean true)) J [] (object a s l n) p (sym (ap (λ x. J (object a s l n) && x) (is.at_boolean true) ∙ and-true (J (object a s l n))))
    join_layer_meets (object a s l n) (object b t m o) p q = by_references_meet a s l n b t m o p q a.reference b.reference refl refl
