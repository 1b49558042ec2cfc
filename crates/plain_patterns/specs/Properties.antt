-- The names of sets of Unicode that a pattern may name by `\p` and `\P`: those that ECMA-262 (22.2.1.1) takes, exactly as they
-- stand in Unicode's PropertyAliases.txt and PropertyValueAliases.txt (18.0), and that `regex` reads too.
use Rattle.std.specs.Prelude.{ℕ, List, [], ◌∷◌, ◌||◌, Option, Some, None, bytes_eq, codes, get_or, option_map, position, if◌then◌else◌}
use Rattle.std.specs.Option.{option_or}
use Rattle.plain_patterns.specs.declared.table.Property.{Property}
use Rattle.plain_patterns.specs.declared.table.Property.TheVariants.{GeneralCategory, Script, ScriptExtensions, Binary}
use Rattle.plain_patterns.specs.declared.table.Table.{Table}
use Rattle.plain_patterns.specs.declared.table.Table.TheVariants.{Categories, ScriptCodes, ScriptNames, BinaryNames}
use Rattle.plain_patterns.specs.declared.table.Name.{Name}

-- The values of General_Category. Without those of surrogates, as no text has one.
unfoldable pub categories : List (List ℕ)
categories =
    codes "C" ∷ codes "Other" ∷ codes "Cc" ∷ codes "Control" ∷ codes "cntrl" ∷ codes "Cf" ∷ codes "Format" ∷ codes "Cn"
    ∷ codes "Unassigned" ∷ codes "Co" ∷ codes "Private_Use" ∷ codes "L" ∷ codes "Letter" ∷ codes "LC"
    ∷ codes "Cased_Letter" ∷ codes "Ll" ∷ codes "Lowercase_Letter" ∷ codes "Lm" ∷ codes "Modifier_Letter" ∷ codes "Lo"
    ∷ codes "Other_Letter" ∷ codes "Lt" ∷ codes "Titlecase_Letter" ∷ codes "Lu" ∷ codes "Uppercase_Letter" ∷ codes "M"
    ∷ codes "Mark" ∷ codes "Combining_Mark" ∷ codes "Mc" ∷ codes "Spacing_Mark" ∷ codes "Me" ∷ codes "Enclosing_Mark"
    ∷ codes "Mn" ∷ codes "Nonspacing_Mark" ∷ codes "N" ∷ codes "Number" ∷ codes "Nd" ∷ codes "Decimal_Number"
    ∷ codes "digit" ∷ codes "Nl" ∷ codes "Letter_Number" ∷ codes "No" ∷ codes "Other_Number" ∷ codes "P"
    ∷ codes "Punctuation" ∷ codes "punct" ∷ codes "Pc" ∷ codes "Connector_Punctuation" ∷ codes "Pd"
    ∷ codes "Dash_Punctuation" ∷ codes "Pe" ∷ codes "Close_Punctuation" ∷ codes "Pf" ∷ codes "Final_Punctuation"
    ∷ codes "Pi" ∷ codes "Initial_Punctuation" ∷ codes "Po" ∷ codes "Other_Punctuation" ∷ codes "Ps"
    ∷ codes "Open_Punctuation" ∷ codes "S" ∷ codes "Symbol" ∷ codes "Sc" ∷ codes "Currency_Symbol" ∷ codes "Sk"
    ∷ codes "Modifier_Symbol" ∷ codes "Sm" ∷ codes "Math_Symbol" ∷ codes "So" ∷ codes "Other_Symbol" ∷ codes "Z"
    ∷ codes "Separator" ∷ codes "Zl" ∷ codes "Line_Separator" ∷ codes "Zp" ∷ codes "Paragraph_Separator" ∷ codes "Zs"
    ∷ codes "Space_Separator" ∷ []

-- The values of Script, which Script_Extensions has too, by their codes (ISO 15924). Without `Zzzz`, which `regex` doesn't read.
unfoldable pub script_codes : List (List ℕ)
script_codes =
    codes "Adlm" ∷ codes "Aghb" ∷ codes "Ahom" ∷ codes "Arab" ∷ codes "Armi" ∷ codes "Armn" ∷ codes "Avst"
    ∷ codes "Bali" ∷ codes "Bamu" ∷ codes "Bass" ∷ codes "Batk" ∷ codes "Beng" ∷ codes "Berf" ∷ codes "Bhks"
    ∷ codes "Bopo" ∷ codes "Brah" ∷ codes "Brai" ∷ codes "Bugi" ∷ codes "Buhd" ∷ codes "Cakm" ∷ codes "Cans"
    ∷ codes "Cari" ∷ codes "Cham" ∷ codes "Cher" ∷ codes "Chrs" ∷ codes "Copt" ∷ codes "Qaac" ∷ codes "Cpmn"
    ∷ codes "Cprt" ∷ codes "Cyrl" ∷ codes "Deva" ∷ codes "Diak" ∷ codes "Dogr" ∷ codes "Dsrt" ∷ codes "Dupl"
    ∷ codes "Egyp" ∷ codes "Elba" ∷ codes "Elym" ∷ codes "Ethi" ∷ codes "Gara" ∷ codes "Geor" ∷ codes "Glag"
    ∷ codes "Gong" ∷ codes "Gonm" ∷ codes "Goth" ∷ codes "Gran" ∷ codes "Grek" ∷ codes "Gujr" ∷ codes "Gukh"
    ∷ codes "Guru" ∷ codes "Hang" ∷ codes "Hani" ∷ codes "Hano" ∷ codes "Hatr" ∷ codes "Hebr" ∷ codes "Hira"
    ∷ codes "Hluw" ∷ codes "Hmng" ∷ codes "Hmnp" ∷ codes "Hung" ∷ codes "Ital" ∷ codes "Java" ∷ codes "Jurc"
    ∷ codes "Kali" ∷ codes "Kana" ∷ codes "Kawi" ∷ codes "Khar" ∷ codes "Khmr" ∷ codes "Khoj" ∷ codes "Kits"
    ∷ codes "Knda" ∷ codes "Krai" ∷ codes "Kthi" ∷ codes "Lana" ∷ codes "Laoo" ∷ codes "Latn" ∷ codes "Lepc"
    ∷ codes "Limb" ∷ codes "Lina" ∷ codes "Linb" ∷ codes "Lisu" ∷ codes "Lyci" ∷ codes "Lydi" ∷ codes "Mahj"
    ∷ codes "Maka" ∷ codes "Mand" ∷ codes "Mani" ∷ codes "Marc" ∷ codes "Medf" ∷ codes "Mend" ∷ codes "Merc"
    ∷ codes "Mero" ∷ codes "Mlym" ∷ codes "Modi" ∷ codes "Mong" ∷ codes "Mroo" ∷ codes "Mtei" ∷ codes "Mult"
    ∷ codes "Mymr" ∷ codes "Nagm" ∷ codes "Nand" ∷ codes "Narb" ∷ codes "Nbat" ∷ codes "Newa" ∷ codes "Nkoo"
    ∷ codes "Nshu" ∷ codes "Ogam" ∷ codes "Olck" ∷ codes "Onao" ∷ codes "Orkh" ∷ codes "Orya" ∷ codes "Osge"
    ∷ codes "Osma" ∷ codes "Ougr" ∷ codes "Palm" ∷ codes "Pauc" ∷ codes "Pcun" ∷ codes "Perm" ∷ codes "Phag"
    ∷ codes "Phli" ∷ codes "Phlp" ∷ codes "Phnx" ∷ codes "Plrd" ∷ codes "Prti" ∷ codes "Rjng" ∷ codes "Rohg"
    ∷ codes "Runr" ∷ codes "Samr" ∷ codes "Sarb" ∷ codes "Saur" ∷ codes "Seal" ∷ codes "Sgnw" ∷ codes "Shaw"
    ∷ codes "Shrd" ∷ codes "Sidd" ∷ codes "Sidt" ∷ codes "Sind" ∷ codes "Sinh" ∷ codes "Sogd" ∷ codes "Sogo"
    ∷ codes "Sora" ∷ codes "Soyo" ∷ codes "Sund" ∷ codes "Sunu" ∷ codes "Sylo" ∷ codes "Syrc" ∷ codes "Tagb"
    ∷ codes "Takr" ∷ codes "Tale" ∷ codes "Talu" ∷ codes "Taml" ∷ codes "Tang" ∷ codes "Tavt" ∷ codes "Tayo"
    ∷ codes "Telu" ∷ codes "Tfng" ∷ codes "Tglg" ∷ codes "Thaa" ∷ codes "Thai" ∷ codes "Tibt" ∷ codes "Tirh"
    ∷ codes "Tnsa" ∷ codes "Todr" ∷ codes "Tols" ∷ codes "Toto" ∷ codes "Tutg" ∷ codes "Ugar" ∷ codes "Vaii"
    ∷ codes "Vith" ∷ codes "Wara" ∷ codes "Wcho" ∷ codes "Xpeo" ∷ codes "Xsux" ∷ codes "Yezi" ∷ codes "Yiii"
    ∷ codes "Zanb" ∷ codes "Zinh" ∷ codes "Qaai" ∷ codes "Zyyy" ∷ []

-- The same by their long names. Without `Unknown`.
unfoldable pub script_names : List (List ℕ)
script_names =
    codes "Adlam" ∷ codes "Caucasian_Albanian" ∷ codes "Arabic" ∷ codes "Imperial_Aramaic" ∷ codes "Armenian"
    ∷ codes "Avestan" ∷ codes "Balinese" ∷ codes "Bamum" ∷ codes "Bassa_Vah" ∷ codes "Batak" ∷ codes "Bengali"
    ∷ codes "Beria_Erfe" ∷ codes "Bhaiksuki" ∷ codes "Bopomofo" ∷ codes "Brahmi" ∷ codes "Braille" ∷ codes "Buginese"
    ∷ codes "Buhid" ∷ codes "Chakma" ∷ codes "Canadian_Aboriginal" ∷ codes "Carian" ∷ codes "Cherokee"
    ∷ codes "Chorasmian" ∷ codes "Coptic" ∷ codes "Cypro_Minoan" ∷ codes "Cypriot" ∷ codes "Cyrillic"
    ∷ codes "Devanagari" ∷ codes "Dives_Akuru" ∷ codes "Dogra" ∷ codes "Deseret" ∷ codes "Duployan"
    ∷ codes "Egyptian_Hieroglyphs" ∷ codes "Elbasan" ∷ codes "Elymaic" ∷ codes "Ethiopic" ∷ codes "Garay"
    ∷ codes "Georgian" ∷ codes "Glagolitic" ∷ codes "Gunjala_Gondi" ∷ codes "Masaram_Gondi" ∷ codes "Gothic"
    ∷ codes "Grantha" ∷ codes "Greek" ∷ codes "Gujarati" ∷ codes "Gurung_Khema" ∷ codes "Gurmukhi" ∷ codes "Hangul"
    ∷ codes "Han" ∷ codes "Hanunoo" ∷ codes "Hatran" ∷ codes "Hebrew" ∷ codes "Hiragana" ∷ codes "Anatolian_Hieroglyphs"
    ∷ codes "Pahawh_Hmong" ∷ codes "Nyiakeng_Puachue_Hmong" ∷ codes "Old_Hungarian" ∷ codes "Old_Italic"
    ∷ codes "Javanese" ∷ codes "Jurchen" ∷ codes "Kayah_Li" ∷ codes "Katakana" ∷ codes "Kharoshthi" ∷ codes "Khmer"
    ∷ codes "Khojki" ∷ codes "Khitan_Small_Script" ∷ codes "Kannada" ∷ codes "Kirat_Rai" ∷ codes "Kaithi"
    ∷ codes "Tai_Tham" ∷ codes "Lao" ∷ codes "Latin" ∷ codes "Lepcha" ∷ codes "Limbu" ∷ codes "Linear_A"
    ∷ codes "Linear_B" ∷ codes "Lycian" ∷ codes "Lydian" ∷ codes "Mahajani" ∷ codes "Makasar" ∷ codes "Mandaic"
    ∷ codes "Manichaean" ∷ codes "Marchen" ∷ codes "Medefaidrin" ∷ codes "Mende_Kikakui" ∷ codes "Meroitic_Cursive"
    ∷ codes "Meroitic_Hieroglyphs" ∷ codes "Malayalam" ∷ codes "Mongolian" ∷ codes "Mro" ∷ codes "Meetei_Mayek"
    ∷ codes "Multani" ∷ codes "Myanmar" ∷ codes "Nag_Mundari" ∷ codes "Nandinagari" ∷ codes "Old_North_Arabian"
    ∷ codes "Nabataean" ∷ codes "Nko" ∷ codes "Nushu" ∷ codes "Ogham" ∷ codes "Ol_Chiki" ∷ codes "Ol_Onal"
    ∷ codes "Old_Turkic" ∷ codes "Oriya" ∷ codes "Osage" ∷ codes "Osmanya" ∷ codes "Old_Uyghur" ∷ codes "Palmyrene"
    ∷ codes "Pau_Cin_Hau" ∷ codes "Proto_Cuneiform" ∷ codes "Old_Permic" ∷ codes "Phags_Pa"
    ∷ codes "Inscriptional_Pahlavi" ∷ codes "Psalter_Pahlavi" ∷ codes "Phoenician" ∷ codes "Miao"
    ∷ codes "Inscriptional_Parthian" ∷ codes "Rejang" ∷ codes "Hanifi_Rohingya" ∷ codes "Runic" ∷ codes "Samaritan"
    ∷ codes "Old_South_Arabian" ∷ codes "Saurashtra" ∷ codes "SignWriting" ∷ codes "Shavian" ∷ codes "Sharada"
    ∷ codes "Siddham" ∷ codes "Sidetic" ∷ codes "Khudawadi" ∷ codes "Sinhala" ∷ codes "Sogdian" ∷ codes "Old_Sogdian"
    ∷ codes "Sora_Sompeng" ∷ codes "Soyombo" ∷ codes "Sundanese" ∷ codes "Sunuwar" ∷ codes "Syloti_Nagri"
    ∷ codes "Syriac" ∷ codes "Tagbanwa" ∷ codes "Takri" ∷ codes "Tai_Le" ∷ codes "New_Tai_Lue" ∷ codes "Tamil"
    ∷ codes "Tangut" ∷ codes "Tai_Viet" ∷ codes "Tai_Yo" ∷ codes "Telugu" ∷ codes "Tifinagh" ∷ codes "Tagalog"
    ∷ codes "Thaana" ∷ codes "Tibetan" ∷ codes "Tirhuta" ∷ codes "Tangsa" ∷ codes "Todhri" ∷ codes "Tolong_Siki"
    ∷ codes "Tulu_Tigalari" ∷ codes "Ugaritic" ∷ codes "Vai" ∷ codes "Vithkuqi" ∷ codes "Warang_Citi" ∷ codes "Wancho"
    ∷ codes "Old_Persian" ∷ codes "Cuneiform" ∷ codes "Yezidi" ∷ codes "Yi" ∷ codes "Zanabazar_Square"
    ∷ codes "Inherited" ∷ codes "Common" ∷ []

-- Binary Unicode property aliases (table 69 of ECMA-262). Without `Changes_When_NFKC_Casefolded`, `CWKCF`, which `regex`
-- doesn't read.
unfoldable pub binary_names : List (List ℕ)
binary_names =
    codes "ASCII" ∷ codes "ASCII_Hex_Digit" ∷ codes "AHex" ∷ codes "Alphabetic" ∷ codes "Alpha" ∷ codes "Any"
    ∷ codes "Assigned" ∷ codes "Bidi_Control" ∷ codes "Bidi_C" ∷ codes "Bidi_Mirrored" ∷ codes "Bidi_M"
    ∷ codes "Case_Ignorable" ∷ codes "CI" ∷ codes "Cased" ∷ codes "Changes_When_Casefolded" ∷ codes "CWCF"
    ∷ codes "Changes_When_Casemapped" ∷ codes "CWCM" ∷ codes "Changes_When_Lowercased" ∷ codes "CWL"
    ∷ codes "Changes_When_Titlecased" ∷ codes "CWT" ∷ codes "Changes_When_Uppercased" ∷ codes "CWU" ∷ codes "Dash"
    ∷ codes "Default_Ignorable_Code_Point" ∷ codes "DI" ∷ codes "Deprecated" ∷ codes "Dep" ∷ codes "Diacritic"
    ∷ codes "Dia" ∷ codes "Emoji" ∷ codes "Emoji_Component" ∷ codes "EComp" ∷ codes "Emoji_Modifier" ∷ codes "EMod"
    ∷ codes "Emoji_Modifier_Base" ∷ codes "EBase" ∷ codes "Emoji_Presentation" ∷ codes "EPres"
    ∷ codes "Extended_Pictographic" ∷ codes "ExtPict" ∷ codes "Extender" ∷ codes "Ext" ∷ codes "Grapheme_Base"
    ∷ codes "Gr_Base" ∷ codes "Grapheme_Extend" ∷ codes "Gr_Ext" ∷ codes "Hex_Digit" ∷ codes "Hex"
    ∷ codes "IDS_Binary_Operator" ∷ codes "IDSB" ∷ codes "IDS_Trinary_Operator" ∷ codes "IDST" ∷ codes "ID_Continue"
    ∷ codes "IDC" ∷ codes "ID_Start" ∷ codes "IDS" ∷ codes "Ideographic" ∷ codes "Ideo" ∷ codes "Join_Control"
    ∷ codes "Join_C" ∷ codes "Logical_Order_Exception" ∷ codes "LOE" ∷ codes "Lowercase" ∷ codes "Lower" ∷ codes "Math"
    ∷ codes "Noncharacter_Code_Point" ∷ codes "NChar" ∷ codes "Pattern_Syntax" ∷ codes "Pat_Syn"
    ∷ codes "Pattern_White_Space" ∷ codes "Pat_WS" ∷ codes "Quotation_Mark" ∷ codes "QMark" ∷ codes "Radical"
    ∷ codes "Regional_Indicator" ∷ codes "RI" ∷ codes "Sentence_Terminal" ∷ codes "STerm" ∷ codes "Soft_Dotted"
    ∷ codes "SD" ∷ codes "Terminal_Punctuation" ∷ codes "Term" ∷ codes "Unified_Ideograph" ∷ codes "UIdeo"
    ∷ codes "Uppercase" ∷ codes "Upper" ∷ codes "Variation_Selector" ∷ codes "VS" ∷ codes "White_Space" ∷ codes "space"
    ∷ codes "XID_Continue" ∷ codes "XIDC" ∷ codes "XID_Start" ∷ codes "XIDS" ∷ []

abbrev pub names : Table → List (List ℕ)
names Categories = categories
names ScriptCodes = script_codes
names ScriptNames = script_names
names BinaryNames = binary_names

-- the property with this name, of those that have values
abbrev pub property_named : List ℕ → Option Property
property_named t =
    if bytes_eq (codes "General_Category") t || bytes_eq (codes "gc") t then Some GeneralCategory
    else if bytes_eq (codes "Script") t || bytes_eq (codes "sc") t then Some Script
    else if bytes_eq (codes "Script_Extensions") t || bytes_eq (codes "scx") t then Some ScriptExtensions
    else None

-- the name that is spelled so, where the table has it
abbrev pub name_in : Property → Table → List ℕ → Option Name
name_in p table t = option_map (λ n. record { property = p; table = table; place = n }) (position (λ n. bytes_eq n t) (names table))

abbrev pub script_named : Property → List ℕ → Option Name
script_named p t = option_or (name_in p ScriptCodes t) (name_in p ScriptNames t)

-- the value of a property, or a property without values, that is named so
abbrev pub value_named : Property → List ℕ → Option Name
value_named GeneralCategory t = name_in GeneralCategory Categories t
value_named Script t = script_named Script t
value_named ScriptExtensions t = script_named ScriptExtensions t
value_named Binary t = name_in Binary BinaryNames t

-- how a name is spelled
abbrev pub spelled : Name → List ℕ
spelled n = get_or (names n.table) n.place []

-- what `regex` reads before it
abbrev pub property_sign : Property → List ℕ
property_sign GeneralCategory = codes "gc="
property_sign Script = codes "sc="
property_sign ScriptExtensions = codes "scx="
property_sign Binary = []
