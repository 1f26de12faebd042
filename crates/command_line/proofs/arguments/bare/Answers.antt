use Rattle.std.proofs.Common.{◌≡◌, ◌∙◌, ap, true}
use Rattle.clap.specs.Words.{App, app_of}
use Rattle.clap.specs.Simple.{Shape, app_of_fields, on_top}
use Rattle.command_line.specs.internal.Matches.{without_arguments}
use Rattle.command_line.proofs.arguments.bare.Goals as goal

-- a command whose words don't begin with the program's name
abbrev nameless : App → App
nameless = on_top (λ (s : Shape). record s { no_binary_name = true })

-- a command that has a version
abbrev versioned : App → App
versioned = on_top (λ (s : Shape). record s { has_version = true })

-- a parse doesn't read the help texts
pub returns : goal.returns
returns c =
    let none : app_of c.version.result ≡ without_arguments =
    ap app_of_fields c.version.ensures ∙ ap versioned (ap app_of_fields c.no_binary_name.ensures ∙ ap nameless c.new.ensures.app) in
    let about : app_of c.about.result ≡ without_arguments = ap app_of_fields c.about.ensures ∙ none in
    let after : app_of c.after_help.result ≡ without_arguments = ap app_of_fields c.after_help.ensures ∙ about in
    ap app_of_fields c.next_line_help.ensures ∙ after
