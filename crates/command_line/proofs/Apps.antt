-- What `clap` reads of the command, as it is put together.
use Rattle.std.proofs.Common.{◌≡◌, ap, ap₂, refl, subst, ◌∙◌, Bool, true, false, ◌||◌, codes, Result, Ok, Err, IfOk}
use Rattle.clap.specs.Faults.{is_simple_and_free}
use Rattle.clap.specs.Simple.{App, app_of, app_of_fields, is_simple, new_app, with_rule, with_subcommand}
use Rattle.clap.specs.Walk.{Rule}
use Rattle.clap.specs.Words.{AddsArg, AddsSubcommand, rule_of}
use Rattle.clap.specs.declared.builder.command.Command.TheViews.{out-Command as fields_of}
use Rattle.clap.specs.declared.builder.arg.Arg.{Arg}
use Rattle.clap.specs.declared.builder.command.Command.{Command}
use Rattle.clap.specs.declared.builder.command.Command.TheOpen.{Command-F}
use Rattle.command_line.specs.Matches.{bare_app, bwe_app}

pub bare_is : (given : Command-F Command) (set : Command-F Command)
    → set ≡ record given { no_binary_name = true; disable_help_flag = true; disable_help_subcommand = true; subcommand_required = true }
    → app_of_fields given ≡ new_app (codes "bwe") → app_of_fields set ≡ bare_app
bare_is given set e new = ap app_of_fields e
    ∙ ap (λ (a : App). record { top = record a.top { no_binary_name = true; disable_help_flag = true; disable_help_subcommand = true; subcommand_required = true }; subs = a.subs }) new

pub with_sub : (old sub new : Command) (a : App) (s : App) → app_of old ≡ a → app_of sub ≡ s → (fields_of sub).has_globals ≡ false → AddsSubcommand old sub new → app_of new ≡ with_subcommand a s.top
with_sub old sub new a s e e' local adds = adds.shape local ∙ ap₂ with_subcommand e (ap (λ (x : App). x.top) e')

-- one line more, of commands that may have failed
pub line_added : {E : Type 0} (lines line made : Result Command E) (old sub : Command) → lines ≡ Ok old → line ≡ Ok sub
    → IfOk made (AddsSubcommand old sub)
    → (app line_app : App) → IfOk lines (λ command. app_of command ≡ app)
    → IfOk line (λ command. app_of command ≡ line_app) → IfOk line (λ command. (fields_of command).has_globals ≡ false)
    → IfOk made (λ command. app_of command ≡ with_subcommand app line_app.top)
line_added lines line (Err error) old sub is_lines is_line adds app line_app before one local = tt
line_added lines line (Ok new) old sub is_lines is_line adds app line_app before one local =
    with_sub old sub new app line_app (subst (λ made. IfOk made (λ command. app_of command ≡ app)) is_lines before)
    (subst (λ made. IfOk made (λ command. app_of command ≡ line_app)) is_line one)
    (subst (λ made. IfOk made (λ command. (fields_of command).has_globals ≡ false)) is_line local) adds

-- and one argument more
pub arg_added : {E : Type 0} (command made : Result Command E) (old : Command) (arg : Arg) → command ≡ Ok old
    → IfOk made (AddsArg old arg) → arg.global ≡ false
    → (app : App) (rule : Rule) → IfOk command (λ command. app_of command ≡ app) → rule_of arg ≡ rule
    → IfOk made (λ command. app_of command ≡ with_rule app rule)
arg_added command (Err error) old arg is adds local app rule before e = tt
arg_added command (Ok new) old arg is adds local app rule before e =
    adds.shape local ∙ ap₂ with_rule (subst (λ made. IfOk made (λ command. app_of command ≡ app)) is before) e

pub local_added : {E : Type 0} (command made : Result Command E) (old : Command) (arg : Arg) → command ≡ Ok old
    → IfOk made (AddsArg old arg) → arg.global ≡ false
    → IfOk command (λ command. (fields_of command).has_globals ≡ false)
    → IfOk made (λ command. (fields_of command).has_globals ≡ false)
local_added command (Err error) old arg is adds local before = tt
local_added command (Ok new) old arg is adds local before =
    adds.globals
    ∙ ap₂ (λ (a b : Bool). a || b) (subst (λ made. IfOk made (λ command. (fields_of command).has_globals ≡ false)) is before) local

pub is_split : is_simple_and_free bwe_app ≡ true
is_split = refl

pub is_matched : is_simple bwe_app ≡ true
is_matched = refl
