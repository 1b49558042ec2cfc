-- When a finding hands on what is plain, and a schema that is written in one way for one that is told by tests.
use Rattle.std.proofs.Common.{◌≡◌, ℕ, List, [], ◌++◌, Bool, not, Option, None, refl, sym, ◌∙◌, subst, nat_le}
use Rattle.std.specs.List.{list_all}
use Rattle.std.proofs.Math.Dec.{leb-zero}
use Rattle.json_value.specs.Value.{Value}
use Rattle.schema_defs.specs.Texts.{Relations}
use Rattle.schema_defs.specs.Schema.{Types, Numbers, Texts, Plain, object, Same, Lists, Named, Document}
use Rattle.enum_defs.specs.Words.{Name}
use Rattle.entry_defs.specs.Entry.{Entry}
use Rattle.convert_defs.specs.Row.{Finding, plainly, leaf_row, row_parts, bad_pattern, places}
use Rattle.convert_defs.specs.Table.{finding_of}
use Rattle.convert_defs.specs.Values.{listed_in}
use Rattle.convert_defs.specs.Faults.{fault_if, row_faults, finding_faults}
use Rattle.convert_walks.specs.Tree.{if_merged}
use Rattle.plain_laws.proofs.Facts.{written}
use Rattle.plain_laws.proofs.Tree.{AllUnwalked, PartsFit, FindingFits, Fits}

module _ (r : Relations) (d : Document) (most : ℕ) where
  -- nothing is told of it
  pub record Tells (f : Finding) : Type 0 where
    pub notes : f.notes ≡ []
    pub patterns : f.patterns ≡ []
    pub places : f.places ≡ 0
    pub faults : row_faults r d most f.row ≡ []
    pub listed : listed_in f.row ≡ []
    pub unmerged : if_merged f.row ≡ None

  no-faults : (f : Finding) → Tells f → finding_faults r d most f ≡ []
  no-faults f t =
      (λ i. fault_if (not (list_all r.is_pattern (t.patterns i))) bad_pattern ++ fault_if (not (nat_le (t.places i) most)) places ++ t.faults i)
      ∙ (λ i. fault_if (not (leb-zero most i)) places ++ [])

  pub finding-fits : (b : Bool) (j : ℕ) (f : Finding) → Tells f → AllUnwalked f.branches → PartsFit r d most b j f.branches (row_parts f.row) → FindingFits r d most b j f
  finding-fits b j f t u p = record { quiet = record { notes = t.notes; faults = no-faults f t; listed = t.listed }; unmerged = t.unmerged; branches = u; parts = p }

  pub leaf-fits : (b : Bool) (j : ℕ) (e : Entry) → FindingFits r d most b j (plainly (leaf_row e))
  leaf-fits b j e = finding-fits b j (plainly (leaf_row e)) (record { notes = refl; patterns = refl; places = refl; faults = refl; listed = refl; unmerged = refl }) tt tt

  -- a schema as it is written
  module _ (b : Bool) (j : ℕ) (p : Plain) (ss : Same) (ls : Lists) (ns : Named) where
    pub fits-as : (t e : Option Name) (k : Option Types) (f : Option (List ℕ)) (vs : Option (List Value)) (n : Option Numbers) (x : Option Texts) (q : Option Name) (c : Option Value) (us : Same) (ms : Lists) (os : Named)
        → p.title ≡ t → p.description ≡ e → p.default ≡ None → p.walk ≡ None → p.types ≡ k → p.format ≡ f → p.enum_values ≡ vs → p.numbers ≡ n → p.texts ≡ x → p.reference ≡ q → p.const_value ≡ c
        → ss ≡ us → ls ≡ ms → ns ≡ os → FindingFits r d most b j (finding_of r d (object (written t e k f vs n x q c) us ms os)) → Fits r d most b j (object p ss ls ns)
    fits-as t e k f vs n x q c us ms os at ae ad aw ak af avs an ax aq ac as-same as-lists as-named z = record {
      unstated = ad;
      unwalked = aw;
      finding = subst (λ s. FindingFits r d most b j (finding_of r d s)) (sym same) z;
    }
      where
        same : object p ss ls ns ≡ object (written t e k f vs n x q c) us ms os
        same = λ i. object (record { title = at i; description = ae i; default = ad i; const_value = ac i; types = ak i; format = af i; enum_values = avs i; numbers = an i; texts = ax i; reference = aq i; walk = aw i }) (as-same i) (as-lists i) (as-named i)
