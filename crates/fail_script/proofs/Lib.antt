mod Acts
mod Apart
mod Forms
mod LineLaws
mod Numerals
mod Parts
mod ScriptLaws
mod WordLaws
