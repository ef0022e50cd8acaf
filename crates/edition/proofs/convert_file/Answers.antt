-- `convert_file` meets its contract. Assumes nothing.
use mathlib.Core.Path.{refl}
use Rattle.fields.proofs.FieldLaw.{put_none}
use Rattle.edition.proofs.FileLaw.{converts, is_long, is_wanted, is_neither, is_empty}
use borrow.Author.Rules.{rules}
use Rattle.edition.proofs.convert_file.Goals as goal

pub returns-then-s-ge-INPUT_ROOM : goal.returns-then-s-ge-INPUT_ROOM
returns-then-s-ge-INPUT_ROOM c = converts _ _ _ _ _ c.requires (is_long _ (search rules)) refl (put_none _ 0)

pub returns-in_err-first : goal.returns-in_err-first
returns-in_err-first c = converts _ _ _ _ _ c.requires (is_empty _ (search rules)) (search rules) (put_none _ 0)

pub returns-in_err-wanted : goal.returns-in_err-wanted
returns-in_err-wanted c =
    converts _ _ _ _ _ c.requires (is_neither _ (search rules) (search rules)) (search rules) (put_none _ 0)

pub returns : goal.returns
returns c =
    converts _ _ _ _ _ c.requires (is_wanted _ (search rules) c.in_ok-wanted.wanted (search rules))
    c.convert_all.ensures.0 c.convert_all.ensures.1
