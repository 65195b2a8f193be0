-- What a search for executables and compressed files appends.
use Rattle.std.specs.Prelude.{ℕ, Bool, List, [], ◌++◌, option_map, if◌then◌else◌}
use Rattle.forensic_path.specs.declared.feature.Kind.TheVariants.{Exec, Unread}
use Rattle.sbuf_nest.specs.Around.{Around}
use Rattle.sbuf_nest.specs.Marks.{marked}
use Rattle.sbuf_nest.specs.declared.mark.Mark.{Mark}
use Rattle.scan_exec.specs.Exec.{exec_of, unread_of}

-- the marks of a place: its executable's header, then its compressed file, each where it is wanted
abbrev pub exec_marks : Bool → Bool → Around → ℕ → List Mark
exec_marks want_exec want_unread look place =
    (if want_exec then marked Exec 0 place (option_map (λ header. header.extent) (exec_of look)) else [])
    ++ (if want_unread then marked Unread 0 place (option_map (λ header. header.extent) (unread_of look)) else [])
