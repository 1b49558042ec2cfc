-- The merge of two objects without subschemas, of the first of which properties and required names stand aside.
use Rattle.std.proofs.Common.{◌≡◌, ℕ, List, [], ◌++◌, Bool, true, Option, refl, sym, ap, ◌∙◌}
use Rattle.json_value.specs.Value.{Value, null}
use Rattle.schema_defs.specs.declared.InstanceType.TheVariants.{Object, Array, Text, Integer}
use Rattle.schema_defs.specs.Schema.{Plain, Schema, object, no_same, Lists, Named, Document, Types, Numbers, Texts}
use Rattle.schema_defs.specs.Admits.{counts_as_absent}
use Rattle.merge_defs.specs.Outcome.{Outcome, fault, never, answer, and_then, mapped, where_both}
use Rattle.merge_defs.specs.Leaves.{two_types, two_formats, two_numbers, two_texts, two_lists, values_of, is_only}
use Rattle.merge_defs.specs.Arrays.{two_lists_parts}
use Rattle.merge_defs.specs.Objects.{no_plain, two_named}
use Rattle.merge_defs.specs.Merge.{tidied, body}
use Rattle.merge_steps.proofs.Leading.{after_mapped, mapped_after, mapped_twice}
use Rattle.merge_walks.specs.Carried.{Walk}
use Rattle.merge_walks.specs.Made.{settled}
use Rattle.merge_apart.specs.Aside.{Aside, with_members, with_aside, are_settled}
use Rattle.merge_apart.proofs.Settling.{settled_aside}

-- where what comes after an answer is mapped, the whole is
each_mapped : {X A B : Type 0} (f : A → B) (o : Outcome X) (k : X → Outcome B) (l : X → Outcome A) → ((x : X) → k x ≡ mapped f (l x)) → and_then o k ≡ mapped f (and_then o l)
each_mapped f o k l h = (λ i. and_then o (λ x. h x i)) ∙ sym (mapped_after f o l)

-- ---- a body

module _ (d : Document) (join less : Schema → Schema → Outcome Schema) (p : Plain) (ls : Lists) (q : Plain) (ms : Lists) (os : Named) where
  abbrev made_of : Option Types → Option (List ℕ) → Option Numbers → Option Texts → Lists → Named → Option (List Value) → Schema
  made_of types format numbers texts items members values = object (record no_plain { types = types; format = format; numbers = numbers; texts = texts; enum_values = values }) no_same items members

  abbrev by_values : Option Types → Option (List ℕ) → Option Numbers → Option Texts → Lists → Named → Outcome Schema
  by_values types format numbers texts items members = mapped (made_of types format numbers texts items members) (where_both two_lists (values_of p) (values_of q))

  abbrev by_members : Named → Option Types → Option (List ℕ) → Option Numbers → Option Texts → Lists → Outcome Schema
  by_members ns types format numbers texts items =
      and_then (two_named join (counts_as_absent d.setting null) (is_only Object types) ns os) (by_values types format numbers texts items)

  abbrev by_lists : Named → Option Types → Option (List ℕ) → Option Numbers → Option Texts → Outcome Schema
  by_lists ns types format numbers texts = and_then (two_lists_parts join (is_only Array types) ls ms) (by_members ns types format numbers texts)

  abbrev by_texts : Named → Option Types → Option (List ℕ) → Option Numbers → Outcome Schema
  by_texts ns types format numbers = and_then (where_both (two_texts (is_only Text types)) p.texts q.texts) (by_lists ns types format numbers)

  abbrev by_numbers : Named → Option Types → Option (List ℕ) → Outcome Schema
  by_numbers ns types format = and_then (where_both (two_numbers (is_only Integer types)) p.numbers q.numbers) (by_texts ns types format)

  abbrev by_format : Named → Option Types → Outcome Schema
  by_format ns types = and_then (where_both two_formats p.format q.format) (by_numbers ns types)

  body_apart : (a : Aside) (ns : Named)
      → ((b : Bool) → two_named join (counts_as_absent d.setting null) b (with_members a ns) os ≡ mapped (with_members a) (two_named join (counts_as_absent d.setting null) b ns os))
      → body d join less p ls (with_members a ns) q ms os ≡ mapped (with_aside a) (body d join less p ls ns q ms os)
  body_apart a ns h =
      let f = with_aside a in
      let ns' = with_members a ns in
      let of_members = λ (types : Option Types). two_named join (counts_as_absent d.setting null) (is_only Object types) ns os in
      each_mapped f (where_both two_types p.types q.types) (by_format ns') (by_format ns) (λ types.
      each_mapped f (where_both two_formats p.format q.format) (by_numbers ns' types) (by_numbers ns types) (λ format.
      each_mapped f (where_both (two_numbers (is_only Integer types)) p.numbers q.numbers) (by_texts ns' types format) (by_texts ns types format) (λ numbers.
      each_mapped f (where_both (two_texts (is_only Text types)) p.texts q.texts) (by_lists ns' types format numbers) (by_lists ns types format numbers) (λ texts.
      each_mapped f (two_lists_parts join (is_only Array types) ls ms) (by_members ns' types format numbers texts) (by_members ns types format numbers texts) (λ items.
      ap (λ o. and_then o (by_values types format numbers texts items)) (h (is_only Object types))
      ∙ after_mapped (with_members a) (of_members types) (by_values types format numbers texts items)
      ∙ each_mapped f (of_members types) (λ members. by_values types format numbers texts items (with_members a members)) (by_values types format numbers texts items) (λ members.
      sym (mapped_twice f (made_of types format numbers texts items members) (where_both two_lists (values_of p) (values_of q)))))))))

  -- ---- what is made of it

  -- without subschemas
  abbrev made_by : Walk → Outcome Schema → Outcome Schema
  made_by w o = mapped (settled w) (and_then o (λ b. and_then (answer [] b) (λ b'. mapped tidied (answer [] b'))))

  made_aside : (a : Aside) (w : Walk) (o : Outcome Schema) → are_settled a.properties ≡ true → made_by w (mapped (with_aside a) o) ≡ mapped (with_aside a) (made_by w o)
  made_aside a w (fault e) h = refl
  made_aside a w (never ns) h = refl
  made_aside a w (answer ns b) h = ap (answer (ns ++ [])) (settled_aside a w b h)

  pub made_body : (a : Aside) (w : Walk) (ns : Named) → are_settled a.properties ≡ true
      → ((b : Bool) → two_named join (counts_as_absent d.setting null) b (with_members a ns) os ≡ mapped (with_members a) (two_named join (counts_as_absent d.setting null) b ns os))
      → made_by w (body d join less p ls (with_members a ns) q ms os) ≡ mapped (with_aside a) (made_by w (body d join less p ls ns q ms os))
  made_body a w ns settled h = ap (made_by w) (body_apart a ns h) ∙ made_aside a w (body d join less p ls ns q ms os) settled
