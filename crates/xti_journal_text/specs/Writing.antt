-- A journal's text while its entries come.
use Rattle.std.specs.Prelude.{ℕ, ◌≡◌, ◌+◌, List, [], ◌∷◌, ◌++◌, length}
use Rattle.xti_model.specs.declared.entry.Entry.{Entry}
use Rattle.xti_model.specs.declared.script.Journal.{Journal}
use Rattle.xti_model.specs.declared.script.StallLine.{StallLine}
use Rattle.xti_journal_text.specs.JournalText.{head_text, entries_text, journal_text}

-- a text, and how many entries it has
abbrev pub Written : Type 0
Written = List ℕ × ℕ

-- the lines of these entries were written after the first text, numbered on from its last
abbrev pub Took : Written → List Entry → Written → Type 0
Took first past now = (now.0 ≡ first.0 ++ entries_text (first.1 + 1) past) × (now.1 ≡ first.1 + length past)

-- whatever entries were written before, the line of this one is written after theirs
abbrev pub TookOne : Written → Entry → Written → Type 0
TookOne before e now = (first : Written) (past : List Entry) → Took first past before → Took first (past ++ e ∷ []) now

-- the text is that of the journal whose head and entries were written, with these stall lines
abbrev pub IsWhole : Written → List StallLine → List ℕ → Type 0
IsWhole now stalls text = (j : Journal) → Took (head_text j.providers, 0) j.entries now → stalls ≡ j.stalls → text ≡ journal_text j
