use Rattle.std.proofs.Common.{◌≡◌, ◌≢◌, inl, inr, refl, subst, ◌∙◌, true, List, []}
use Rattle.clap.specs.Words.{App, HasKind, HasMatchesOf, Text, app_of, fault_of, found_of, is_simple_and_free, rows_of, takes}
use Rattle.clap.specs.Values.{kind_of}
use Rattle.clap.specs.declared.error.Error.{Error}
use Rattle.clap.specs.declared.error.kind.ErrorKind.TheVariants as kind
use Rattle.clap.specs.declared.parser.matches.ArgMatches.{ArgMatches}
use Rattle.xti_command.specs.Words.{AreTaken, command_form, faults_in, found_in, is_taken}
use Rattle.xti_command.proofs.command.matches.Goals as goal

-- the form is one that clap speaks of
found_by : (a : App) (words : List Text) (m : ArgMatches) → a ≡ command_form → HasMatchesOf a words m → rows_of (found_of m) ≡ found_in words
unfolding found_in
found_by a words m same h = (subst (λ a. HasMatchesOf a words m) same h refl).0

no_fault_by : (a : App) (words : List Text) → a ≡ command_form → (is_simple_and_free a ≡ true → fault_of a words ≡ []) → faults_in words ≡ []
unfolding faults_in
no_fault_by a words same h = subst (λ a. is_simple_and_free a ≡ true → fault_of a words ≡ []) same h refl

taken_by : (a : App) (words : List Text) (e : Error) → a ≡ command_form → (takes a words ≡ true → kind_of e ≡ kind.OutOfMemory) → AreTaken words → kind_of e ≡ kind.OutOfMemory
unfolding is_taken
taken_by a words e same h taken = subst (λ a. takes a words ≡ true → kind_of e ≡ kind.OutOfMemory) same h taken

-- an error that is not for want of memory is a fault's
no_kind : (e : Error) → kind_of e ≢ kind.OutOfMemory → HasKind [] e → ⊥
no_kind e other (inl memory) = other memory
no_kind e other (inr none) = none

fault_by : (a : App) (words : List Text) (e : Error) → a ≡ command_form → (is_simple_and_free a ≡ true → HasKind (fault_of a words) e) → kind_of e ≢ kind.OutOfMemory → faults_in words ≢ []
unfolding faults_in
fault_by a words e same h other none = no_kind e other (subst (λ kinds. HasKind kinds e) none (subst (λ a. is_simple_and_free a ≡ true → HasKind (fault_of a words) e) same h refl))

pub returns-in_default-clause-taken : goal.returns-in_default-clause-taken
returns-in_default-clause-taken c taken = refl

pub returns-in_default-clause-refused : goal.returns-in_default-clause-refused
returns-in_default-clause-refused c is none = absurd (cc)

pub returns-in-Ok-try_get_matches_from-clause-found : goal.returns-in-Ok-try_get_matches_from-clause-found
returns-in-Ok-try_get_matches_from-clause-found c =
    found_by (app_of c.in-Ok.command_line) _ c.in-Ok-try_get_matches_from.matches c.in-Ok.ensures c.in-Ok-try_get_matches_from.ensures.matches

pub returns-in-Ok-try_get_matches_from-clause-no_fault : goal.returns-in-Ok-try_get_matches_from-clause-no_fault
returns-in-Ok-try_get_matches_from-clause-no_fault c =
    no_fault_by (app_of c.in-Ok.command_line) _ c.in-Ok.ensures c.in-Ok-try_get_matches_from.ensures.kinds

pub returns-in-Ok-try_get_matches_from-clause-refused : goal.returns-in-Ok-try_get_matches_from-clause-refused
returns-in-Ok-try_get_matches_from-clause-refused c is none = absurd (cc)

pub returns-in-Err-clause-taken : goal.returns-in-Err-clause-taken
returns-in-Err-clause-taken c taken =
    c.cause.ensures.memory (c.kind.ensures ∙ taken_by (app_of c.in-Ok.command_line) _ c.in-Err.error c.in-Ok.ensures c.in-Err.ensures.passes taken)

pub returns-in-Err-clause-refused : goal.returns-in-Err-clause-refused
returns-in-Err-clause-refused c is =
    fault_by (app_of c.in-Ok.command_line) _ c.in-Err.error c.in-Ok.ensures c.in-Err.ensures.kinds (λ memory. c.cause.ensures.other (cc) (c.kind.ensures ∙ memory))
