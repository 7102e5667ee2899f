use Rattle.search_defs.proofs.LessonLemmas.{lesson_is_new_or_forgotten}
use Rattle.search_defs.proofs.laws.a_lesson_is_new_or_forgotten.Goals as goal

pub returns : goal.returns
returns c = λ log s e u b solving known taught index derived. lesson_is_new_or_forgotten log s e u b solving known taught index derived
