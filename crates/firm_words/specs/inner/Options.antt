-- The command line as the parser's own command, and what a parse of it gives.
use Rattle.std.specs.Prelude.{◌≡◌, ℕ, List, Some, codes, pos}
use Rattle.clap.specs.Words.{IsParsedFrom, IsSignedIn, app_of, found_of, one_text, without_minus}
use Rattle.clap.specs.declared.builder.command.Command.{Command}
use Rattle.clap.specs.declared.parser.matches.ArgMatches.{ArgMatches}
use Rattle.firm_words.specs.CommandLine.{command_line}

-- the number that `--workers` has in a parse, from 1 to 8
pub record HasNumber (m : ArgMatches) : Type 0 where
  pub text : List ℕ
  pub read : one_text (found_of m) (codes "workers") ≡ Some (without_minus text)
  pub within : IsSignedIn (pos 1) (pos 8) text

-- the parser's own command is this command line, and when it parses words, there is a number of workers
pub record IsCommandLine (command : Command) : Type 0 where
  pub app : app_of command ≡ command_line
  pub workers : (m : ArgMatches) → IsParsedFrom command m → HasNumber m
