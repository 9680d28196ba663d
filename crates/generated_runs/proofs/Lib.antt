mod ScriptLaws
mod Faultless
