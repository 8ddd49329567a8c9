use Rattle.std.proofs.Common.{◌≡◌, ℕ, zero, suc, ◌<◌, Bool, false, List, [], ◌∷◌, length, get_or, sym, ap, subst, inl, inr, refl, arith}
use Rattle.std.proofs.lemmas.Bool.{and_right}
use Rattle.std.specs.List.{list_all}
use Rattle.mesh_model.specs.declared.language.script.Command.{Command}
use Rattle.mesh_model.specs.declared.language.script.Line.{Line}
use Rattle.amr_engine.specs.Built.{IsUndefined, is_built, is_built_command}
use Rattle.amr_engine.proofs.laws.what_is_undefined_is_not_built.Goals as goal

command_not_built : (command : Command) → IsUndefined command → is_built_command command ≡ false
command_not_built command (inl e) = ap is_built_command e
command_not_built command (inr e) = ap is_built_command e

-- one that fails the test fails the list
one_fails : (p : Line → Bool) (lines : List Line) (k : ℕ) (d : Line) → k < length lines → p (get_or lines k d) ≡ false → list_all p lines ≡ false
one_fails p [] k d h e = absurd (omega arith)
one_fails p (line ∷ lines) zero d h e = rw e refl
one_fails p (line ∷ lines) (suc k) d h e = and_right (p line) (list_all p lines) (one_fails p lines k d (omega arith) e)

pub returns : goal.returns
unfolding is_built
returns c s ranks workers has =
    let built : Line → Bool = λ line. is_built_command line.command in
    let fails : built (get_or s.lines has.0 has.1) ≡ false = subst (λ line. built line ≡ false) (sym has.3) (command_not_built has.1.command has.4) in
    and_right _ (list_all built s.lines) (one_fails built s.lines has.0 has.1 has.2 fails)
