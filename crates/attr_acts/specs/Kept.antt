-- The settings that are kept of acts: of each slot the first.
use Rattle.std.specs.Prelude.{List, [], ◌∷◌, ◌++◌, Option, Some, None, map}
use Rattle.token_trees.specs.Token.{site}
use Rattle.attr_defs.specs.Acts.{ActD, tells, sets, offers, adds, SettingD, Values, first_of}
use Rattle.attr_acts.specs.declared.performing.Settings.{Settings}
use Rattle.attr_acts.specs.Views.{setting_view}

abbrev pub keep_by : Option SettingD → List SettingD → SettingD → List SettingD
keep_by None ks x = ks ++ x ∷ []
keep_by (Some y) ks x = ks

-- a setting more, where its slot has none
abbrev pub keep : List SettingD → SettingD → List SettingD
keep ks x = keep_by (first_of x.slot ks) ks x

-- what is kept after an act
abbrev pub kept_on : List SettingD → ActD → List SettingD
kept_on ks (tells d) = ks
kept_on ks (sets s at v) = keep ks (record { slot = s; at = at; value = v })
kept_on ks (offers s v) = keep ks (record { slot = s; at = site; value = v })
kept_on ks (adds n) = ks

abbrev pub settings_view : Settings → List SettingD
settings_view s = map setting_view s.kept.items

-- the values that the slots have
abbrev pub values_in : Settings → Values
values_in s = λ slot. first_of slot (settings_view s)
