-- A document whose root takes a text that it doesn't admit, without a fault or a note, where a text may be an ipv4 address and no ip address: so relations of texts have to be lawful.
use Rattle.std.specs.Prelude.{◌≡◌, ℕ, List, [], ◌∷◌, length, Bool, true, false, Option, Some, option_map}
use Prim.Native.String.{String}
use Rattle.json_value.specs.Value.{Value}
use Rattle.schema_defs.specs.declared.Format.{Format}
use Rattle.schema_defs.specs.declared.Format.TheVariants.{Ipv4}
use Rattle.schema_defs.specs.declared.Setting.TheVariants.{Strict}
use Rattle.schema_defs.specs.Texts.{Relations}
use Rattle.schema_defs.specs.Admits.{admits}
use Rattle.schema_defs.specs.Read.{document_of}
use Rattle.schema_defs.specs.Build.{◌≔◌, str, obj, arr}
use Rattle.entry_defs.specs.Table.{root_of}
use Rattle.entry_defs.specs.Takes.{takes}
use Rattle.convert_walks.specs.Tree.{table_of}
use Rattle.convert_walks.specs.Told.{notes_of, faults_of}

-- each text is an ipv4 address, and none is of another format
abbrev pub only_ipv4 : Format → List ℕ → Bool
only_ipv4 Ipv4 s = true
only_ipv4 _ s = false

abbrev pub lawless : Relations
lawless = record { is_pattern = λ p. true; matches = λ p s. true; has_format = only_ipv4 }

abbrev pub texts_of_format : String → Value
texts_of_format f = obj ("format" ≔ str f ∷ "type" ≔ str "string" ∷ [])

-- of both formats, which merge to ipv4
abbrev pub ip_and_ipv4 : Value
ip_and_ipv4 = obj ("allOf" ≔ arr (texts_of_format "ip" ∷ texts_of_format "ipv4" ∷ []) ∷ [])

-- whether the root admits the value, whether its tree takes it, and the numbers of faults and notes
abbrev pub told_by : Value → Value → Option (Bool × Bool × ℕ × ℕ)
told_by s v =
    option_map (λ d. (admits lawless d v d.root, takes (table_of lawless d 8 24) lawless (root_of (table_of lawless d 8 24)) v, length (faults_of lawless d 8 24), length (notes_of lawless d 8 24))) (document_of Strict s)

pub record LawlessTexts : Type 0 where
  pub takes_more : told_by ip_and_ipv4 (str "x") ≡ Some (false, true, 0, 0)
